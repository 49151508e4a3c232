use Rattle.std.proofs.Common.{◌≡◌, subst, arith}
use Rattle.margin_runs.specs.Tries.{IsBesideAfter}
use Rattle.margin_runs.proofs.put.past_of.Goals as goal

pub returns-clause-run : goal.returns-clause-run
returns-clause-run c =
    let last : c.loop-before.before ≡ c.args.slot =
    omega (arith, c.loop-before-test.false, c.loop-before.auto.before-end) in
    let common = c.args.common.now in
    subst (IsBesideAfter c.loop-before.past common.list.now common.script.now) last c.loop-before.invariant.0
