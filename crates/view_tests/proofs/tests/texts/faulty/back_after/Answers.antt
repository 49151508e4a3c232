use Rattle.std.proofs.Common.{◌≡◌, subst, arith}
use Rattle.hypothesis.specs.FaultyRuns.{KnowsBack}
use Rattle.view_tests.proofs.tests.texts.faulty.back_after.Goals as goal

pub step-requires-2-clause-at : goal.step-requires-2-clause-at
step-requires-2-clause-at c =
    let all : c.loop-slot.slot ≡ c.args.last = omega (arith, c.loop-slot.auto.slot-end, c.loop-slot-test.false) in
    c.forgetting-again.ensures c.args.list.now c.args.script.now c.args.last
    (subst (λ s. KnowsBack c.args.list.now c.args.script.now s c.loop-slot.walk) all c.loop-slot.invariant.known)
