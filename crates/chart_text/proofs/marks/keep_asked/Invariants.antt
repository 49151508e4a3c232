use Rattle.chart_text.proofs.Words.{◌≡◌, ℕ, ◌<◌, ◌≤◌, ◌&&◌, is_asked, has_mark}
use Rattle.chart_text.proofs.marks.keep_asked.Given as goal

-- the marks so far are those that were asked for
abbrev pub invariant-loop-t : goal.invariant-loop-t
invariant-loop-t l =
    record {
      before : (s : ℕ) → s < l.t → has_mark l.marks s ≡ (has_mark l.fn.marks s && is_asked l.asked s);
      later : (s : ℕ) → l.t ≤ s → has_mark l.marks s ≡ has_mark l.fn.marks s;
    }
