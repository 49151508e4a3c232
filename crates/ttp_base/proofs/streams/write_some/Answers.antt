use Rattle.std.proofs.Common.{inl, inr, refl, arith}
use Rattle.ttp_base.proofs.Known.{Keeps-none, Keeps-join, Keeps-Appends}
use Rattle.ttp_base.proofs.Told.{Tells-none, one_more, no_fault-join, fault-join}
use Rattle.ttp_base.proofs.streams.write_some.Goals as goal

pub loop-init : goal.loop-init
loop-init g c = (Keeps-none _, Tells-none _)

pub returns-in-Ok-clause-ok : goal.returns-in-Ok-clause-ok
returns-in-Ok-clause-ok g c = Keeps-Appends _ _ _ _ c.loop.invariant.0 c.in-Ok.ensures.ok

pub returns-in-Ok-clause-quiet : goal.returns-in-Ok-clause-quiet
returns-in-Ok-clause-quiet g c =
    no_fault-join _ (g.T.Target.told c.loop.target) _ (c.loop.counter, c.loop.invariant.1) (0, c.in-Ok.ensures.quiet)

pub returns-then-not-is_interruption-clause-err : goal.returns-then-not-is_interruption-clause-err
returns-then-not-is_interruption-clause-err g c = Keeps-join _ _ _ c.loop.invariant.0 c.in-Err.ensures.err

pub returns-then-not-is_interruption-clause-told : goal.returns-then-not-is_interruption-clause-told
returns-then-not-is_interruption-clause-told g c =
    fault-join _ (g.T.Target.told c.loop.target) _ c.in-Err.trouble (c.loop.counter, c.loop.invariant.1)
    (inl (c.if-not-is_interruption.ensures, (0, c.in-Err.ensures.tells)))

pub loop-preserved : goal.loop-preserved
loop-preserved g c = (
  Keeps-join _ _ _ c.loop.invariant.0 c.in-Err.ensures.err,
  one_more _ (g.T.Target.told c.loop.target) _ c.loop.counter c.in-Err.trouble c.if-not-is_interruption.ensures
      c.loop.invariant.1 c.in-Err.ensures.tells,
)

pub returns-clause-told : goal.returns-clause-told
returns-clause-told g c = inr (refl, (c.loop.counter, omega (arith, c.loop-test.false), c.loop.invariant.1))
