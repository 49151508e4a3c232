use Rattle.chart_text.proofs.Words.{◌≡◌, ℕ, ◌<◌, ◌||◌, length, map, counts_sum, has_mark, is_tried}
use Rattle.whole_campaign.specs.Readable.{counts_together}
use Rattle.chart_text.proofs.sums.sums_of.Given as goal

-- with those of the pieces that are left the sums are whole, and what is not marked yet is of a piece that is left
abbrev pub invariant-loop-piece : goal.invariant-loop-piece
invariant-loop-piece l =
    record {
      marks : (s : ℕ) → s < length l.fn.marks
          → (has_mark l.marks s || is_tried l.left s) ≡ (has_mark l.fn.marks s || is_tried l.fn.pieces s);
      kept : counts_together l.sums.kept (counts_sum (map (λ piece. piece.kept) l.left))
          ≡ counts_sum (map (λ piece. piece.kept) l.fn.pieces);
      broken : counts_together l.sums.broken (counts_sum (map (λ piece. piece.broken) l.left))
          ≡ counts_sum (map (λ piece. piece.broken) l.fn.pieces);
    }

abbrev pub decreases-loop-piece : goal.decreases-loop-piece
decreases-loop-piece l = length l.left
