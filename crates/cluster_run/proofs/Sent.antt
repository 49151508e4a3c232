-- A job may go to another thread, and so may the workers.
use Rattle.cluster_run.proofs.Words.{crosses}
use denote.Ref.{NamedLft}
use denote.Param.Send.{IsSend, sendable}
use Rattle.ttp_world.proofs.events.Incidents.TheSendSync as incidents
use Rattle.ttp_world.proofs.events.LastLookUp.TheSendSync as last
use Rattle.ttp_world.proofs.medl.Medl.TheSendSync as list
use Rattle.ttp_world.proofs.script.Script.TheSendSync as script
use Rattle.controller.specs.contracts.controller.Controller as Controller
use Rattle.controller.specs.contracts.seat.Seat as Seat
use Rattle.controller.proofs.controller.Intent.TheSendSync as intent
use Rattle.controller.proofs.controller.Outcome.TheSendSync as outcome
use Rattle.controller.proofs.node.Node.TheSendSync as node
use Rattle.controller.proofs.turn.Turn.TheSendSync as turn
use Rattle.medium.proofs.medium.Medium.TheSendSync as medium
use Rattle.cluster_run.specs.contracts.jobs.Job as Job
use Rattle.host_port.proofs.ends.HostEnd.TheSendSync as host_end
use Rattle.host_port.proofs.fetching.Fetcher.TheSendSync as fetcher
use Rattle.host_port.proofs.reading.HostReaders.TheSendSync as readers
use Rattle.host_port.proofs.report.WriteLine.TheSendSync as line
use Rattle.ttp_world.proofs.host_lines.HostRead.TheSendSync as read
use Rattle.std.proofs.option.Option.TheSendSync as option
use Rattle.errand.proofs.ends.Worker.TheSendSync as worker
use Rattle.cluster_run.specs.contracts.staff.Workers as Workers
use Rattle.cluster_run.proofs.nodes.Desk.TheSendSync as desk

controller_send : IsSend Controller.the_row
controller_send =
    search (sendable, crosses, node.the_send, turn.the_field_send, intent.the_field_send, last.the_field_send) depth 20

seat_send : IsSend Seat.the_row
seat_send = search (sendable, crosses, controller_send, incidents.the_field_send, outcome.the_field_send) depth 20

ruleset parts = (
  seat_send,
  desk.the_send,
  medium.the_send,
  medium.the_sync,
  list.the_sync,
  script.the_sync,
  option.the_send,
  fetcher.the_send,
  host_end.the_send,
  readers.the_send,
  line.the_send,
  read.the_sync,
)

pub job_send : (κ : NamedLft) → IsSend (Job.the_row κ)
job_send κ = search (sendable, crosses, parts) depth 20

pub workers_send : (κ κ' : NamedLft) → IsSend (Workers.the_row κ κ')
workers_send κ κ' = search (sendable, crosses, worker.the_send, job_send) depth 20
