use Rattle.chart_text.proofs.Words.{◌≡◌, ◌+◌, ◌-◌, ◌≤◌, length, drop, is_worse}
use Rattle.std.specs.List.{position_or_len}
use Rattle.chart_text.proofs.worst.Worst.place_for.Given as goal

-- none of the faults so far is less bad
abbrev pub invariant-loop-place : goal.invariant-loop-place
invariant-loop-place l =
    record {
      place : l.place + position_or_len (λ one. is_worse l.size l.fault one.shown) (drop l.place l.self)
          ≡ position_or_len (λ one. is_worse l.size l.fault one.shown) l.self;
      within : l.place ≤ length l.self;
    }

abbrev pub decreases-loop-place : goal.decreases-loop-place
decreases-loop-place l = length l.self-inside.lines.items - l.place
