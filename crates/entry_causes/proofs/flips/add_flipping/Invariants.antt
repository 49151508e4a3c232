use Rattle.std.proofs.Common.{◌≡◌, ◌++◌, take}
use Rattle.std.specs.List.{filter_map}
use Rattle.std.specs.Prelude.{filter}
use Rattle.causes.specs.LinesOf.{each_first, first_line, flips_bit, is_turned, lines_where}
use Rattle.ttp_world.specs.Events.{bits_on}
use Rattle.entry_causes.proofs.flips.add_flipping.Given as goal

-- those of the first flips
abbrev pub invariant-loop-at : goal.invariant-loop-at
invariant-loop-at l = record {
  lines : l.out.lines
      ≡ l.initial.out.lines
      ++ filter_map (λ turned. first_line (lines_where (flips_bit l.sender l.channel l.slot turned) l.run.script))
      (filter (is_turned (bits_on l.channel l.flips) l.size) (each_first (bits_on l.channel (take l.at l.flips))));
  entries : l.out.entries ≡ l.initial.out.entries;
}
