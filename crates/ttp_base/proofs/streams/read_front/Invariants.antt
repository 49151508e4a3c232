use Rattle.std.proofs.Common.{◌-◌, ◌≤◌, length}
use Rattle.std.specs.Io.KnownBytes.{Consumes}
use Rattle.ttp_base.specs.Errors.{ToldNoFault}
use Rattle.ttp_base.proofs.streams.read_front.Given as goal

-- the bytes so far were taken from the source, they are not too many, and no fault was told
abbrev pub invariant-loop-room : goal.invariant-loop-room
invariant-loop-room g l =
    (length l.bytes.items ≤ l.count)
    × Consumes (g.S.Source.remaining l.fn.source) (g.S.Source.remaining l.source) l.bytes.items
    × ToldNoFault (g.S.Source.told l.fn.source) (g.S.Source.told l.source)

abbrev pub decreases-loop-room : goal.decreases-loop-room
decreases-loop-room g l = l.count - length l.bytes.items
