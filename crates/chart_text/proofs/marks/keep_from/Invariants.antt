use Rattle.chart_text.proofs.Words.{◌≡◌, ℕ, ◌≤◌, length, take, drop, filter, below, has_mark}
use Rattle.chart_text.proofs.marks.keep_from.Given as goal

-- of the marks so far those of the window are left
abbrev pub invariant-loop-t : goal.invariant-loop-t
invariant-loop-t l =
    record {
      count : l.number ≡ length (filter (has_mark l.fn.marks) (below l.t));
      low : l.number ≤ l.t;
      kept : filter (has_mark l.marks) (below l.t)
          ≡ take l.most (drop l.first (filter (has_mark l.fn.marks) (below l.t)));
      later : (s : ℕ) → l.t ≤ s → has_mark l.marks s ≡ has_mark l.fn.marks s;
    }
