use Rattle.chart_text.proofs.Words.{◌≡◌, ◌≤◌, length, filter, below, has_mark}
use Rattle.chart_text.proofs.marks.marked_slot.Given as goal

-- the marks so far were passed
abbrev pub invariant-loop-t : goal.invariant-loop-t
invariant-loop-t l =
    record {
      count : l.passed ≡ length (filter (has_mark l.marks) (below l.t));
      low : l.passed ≤ l.number;
      few : l.passed ≤ l.t;
    }
