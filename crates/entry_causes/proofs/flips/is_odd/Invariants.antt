use Rattle.std.proofs.Common.{◌≡◌, ◌%◌, drop}
use Rattle.std.specs.Prelude.{◌==◌, count_by}
use Rattle.causes.specs.Members.{is_one_of}
use Rattle.ttp_world.specs.Events.{bits_on}
use Rattle.entry_causes.proofs.flips.is_odd.Given as goal

-- it is so of all where it is so of one of those before here and those from here on
abbrev pub invariant-loop-flip : goal.invariant-loop-flip
invariant-loop-flip l =
    (count_by (λ other. other == l.bit) (bits_on l.channel l.flips) % 2 == 1)
    ≡ is_one_of l.odd (count_by (λ other. other == l.bit) (bits_on l.channel (drop l.flip-index l.flips)) % 2 == 1)
