use Rattle.chart_text.proofs.Words.{◌≡◌, ◌≤◌, length, filter, below, has_mark}
use Rattle.chart_text.proofs.marks.count_before.Given as goal

-- the marks so far were counted
abbrev pub invariant-loop-t : goal.invariant-loop-t
invariant-loop-t l =
    record { count : l.count ≡ length (filter (has_mark l.marks) (below l.t)); low : l.count ≤ l.t }
