use Rattle.std.proofs.Common.{subst, arith}
use Rattle.hypothesis.specs.FaultyRuns.{IsBackAt}
use Rattle.broken_arms.proofs.reasons.walk_to.Goals as goal

pub returns : goal.returns
returns c = subst (λ n. IsBackAt c.args.list.now c.args.script.now n c.loop-at.walk) (omega arith) c.loop-at.invariant
