-- What a run through a cluster has counted so far.
use Rattle.std.specs.Prelude.{◌≡◌, ◌+◌, ◌^◌, ◌<◌, List, map, length}
use Rattle.ttp_base.specs.NodeSet.{set_bits}
use Rattle.ttp_world.specs.declared.medl.Medl.{Medl}
use Rattle.ttp_world.specs.declared.node.NodeState.{NodeState}
use Rattle.ttp_world.specs.Legal.{IsLegal}
use Rattle.ttp_world.specs.Medl.{member_limit}
use Rattle.ttp_world.specs.World.{Numbers, world}
use Rattle.host_port.specs.declared.report.NodeLine.{NodeLine}
use Rattle.host_port.specs.declared.report.SlotReport.{SlotReport}
use Rattle.cluster_run.specs.Standing.{ClusterView, ClusterStandsFor}
use Rattle.ttp_top.specs.declared.totals.Totals.{Totals}
use Rattle.ttp_top.specs.Samples.Totals.{totals_with_slot, totals_of}

-- the states that a report shows
abbrev pub states_in : List NodeLine → List NodeState
states_in nodes = map (λ line. line.state) nodes

-- with the slot of a report
abbrev pub with_report : Totals → SlotReport → Totals
with_report totals report =
    totals_with_slot totals (states_in report.nodes) (length report.writes) (length report.reads)

-- the sums fit in 64 bits
pub record SumsFit (totals : Totals) (report : SlotReport) : Type 0 where
  pub sent : totals.sent + length report.nodes < 2 ^ 64
  pub left : totals.left + length report.nodes < 2 ^ 64
  pub writes : totals.writes + length report.writes < 2 ^ 64
  pub reads : totals.reads + length report.reads < 2 ^ 64

-- the members can be written in the digits that a list gives them
abbrev pub HasFewMembers : Medl → Totals → Type 0
HasFewMembers list totals = set_bits totals.members < member_limit list

-- a cluster stands for legal numbers of as many slots as it has done, and these are the totals of that run
pub record HasCounted (c : ClusterView) (totals : Totals) : Type 0 where
  pub numbers : Numbers
  pub stands : ClusterStandsFor c numbers
  pub legal : IsLegal c.list c.script numbers
  pub totals_are : totals ≡ totals_of c.list c.script (world c.list c.script numbers)
  pub members : HasFewMembers c.list totals
