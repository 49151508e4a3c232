use Rattle.std.specs.Io.KnownBytes.{Keeps}
use Rattle.ttp_base.specs.Errors.{Tells, interruptions}
use Rattle.ttp_base.proofs.streams.read_some.Given as goal

-- nothing was read so far, and each turn was interrupted
abbrev pub invariant-loop : goal.invariant-loop
invariant-loop g l =
    Keeps (g.S.Source.remaining l.fn.source) (g.S.Source.remaining l.source)
    × Tells (g.S.Source.told l.fn.source) (g.S.Source.told l.source) (interruptions l.counter)
