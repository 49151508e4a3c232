use Rattle.std.specs.Io.KnownBytes.{Keeps}
use Rattle.ttp_base.specs.Errors.{Tells, interruptions}
use Rattle.ttp_base.proofs.streams.write_some.Given as goal

-- nothing was written so far, and each turn was interrupted
abbrev pub invariant-loop : goal.invariant-loop
invariant-loop g l =
    Keeps (g.T.Target.contents l.fn.target) (g.T.Target.contents l.target)
    × Tells (g.T.Target.told l.fn.target) (g.T.Target.told l.target) (interruptions l.counter)
