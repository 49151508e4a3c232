use Rattle.cluster_run.proofs.Words.{crosses}
use denote.Param.Send.{sendable}
use Rattle.cluster_run.proofs.Sent.{workers_send}
use Rattle.cluster_run.proofs.by_hand.slot_beside.Goals as goal

pub join_mut-done-requires-send-F : goal.join_mut-done-requires-send-F
join_mut-done-requires-send-F g c κs within = search (sendable, crosses, workers_send) depth 20
