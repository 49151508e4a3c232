use Rattle.chart_text.proofs.Words.{◌≡◌, ℕ, ◌<◌, ◌&&◌, ◌||◌, length, nat_le, nat_lt, has_mark}
use Rattle.chart_text.proofs.marks.mark_piece.Given as goal

-- the slots of the piece so far are marked
abbrev pub invariant-loop-t : goal.invariant-loop-t
invariant-loop-t l =
    (s : ℕ) → s < length l.fn.marks
    → has_mark l.marks s ≡ (has_mark l.fn.marks s || (nat_le l.piece.first s && (nat_lt s l.t && nat_lt s l.end)))
