use Rattle.std.proofs.Common.{◌-◌, ◌≤◌, length, take}
use Rattle.std.specs.Io.KnownBytes.{Appends}
use Rattle.ttp_base.specs.Errors.{ToldNoFault}
use Rattle.ttp_base.proofs.streams.write_rest.Given as goal

-- the first bytes of the rest were written, and no fault was told
abbrev pub invariant-loop-done : goal.invariant-loop-done
invariant-loop-done g l =
    (l.done ≤ length l.rest)
    × Appends (g.T.Target.contents l.fn.target) (g.T.Target.contents l.target) (take l.done l.rest)
    × ToldNoFault (g.T.Target.told l.fn.target) (g.T.Target.told l.target)

abbrev pub decreases-loop-done : goal.decreases-loop-done
decreases-loop-done g l = length l.rest - l.done
