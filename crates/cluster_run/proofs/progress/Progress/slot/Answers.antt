use Rattle.cluster_run.proofs.SlotSteps.{next_cluster}
use Rattle.cluster_run.proofs.progress.Progress.slot.Goals as goal

pub returns-clause-steps : goal.returns-clause-steps
returns-clause-steps g c = λ numbers stands.
    next_cluster c.args.course.now c.args.self.now c.slot_of.new.nodes c.in-Ok.report c.in-Some.is stands
    c.in-Ok.ensures.steps
