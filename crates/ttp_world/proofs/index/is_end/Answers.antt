use Rattle.ttp_world.proofs.Words.{arith}
use Rattle.ttp_world.proofs.Splits.{splits-step}
use Rattle.ttp_world.proofs.index.is_end.Goals as goal

pub returns-then-is_before-clause-place : goal.returns-then-is_before-clause-place
returns-then-is_before-clause-place c holds =
    splits-step c.args.steps.now c.args.place c.args.key c.requires (omega arith)
    (c.is_behind.ensures c.if-is_behind.true) (c.is_before.ensures c.if-is_before.true)
