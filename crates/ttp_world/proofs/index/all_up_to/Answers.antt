use Rattle.ttp_world.proofs.Words.{rules, IsPartitionedBy-leb, IsPartitionPoint-from_clause, step_is_by}
use Rattle.ttp_world.proofs.index.all_up_to.Goals as goal

pub returns-clause-place : goal.returns-clause-place
returns-clause-place c =
    IsPartitionPoint-from_clause (step_is_by c.args.key) c.args.steps.now _ c.partition_point.ensures.partitioned
    (IsPartitionedBy-leb (λ step. step.key) c.args.steps.now c.args.key c.requires) (λ a r f' called. search rules)
