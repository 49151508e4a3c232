use Rattle.chart_text.proofs.Words.{◌≡◌, ◌≤◌, ◌+◌, ◌*◌, ◌++◌, length, flat_map, below, look_told}
use Rattle.chart_text.proofs.sum.put_looks_told.Given as goal

-- the looks so far were told
abbrev pub invariant-loop-number : goal.invariant-loop-number
invariant-loop-number l =
    record {
      text : l.line ≡ l.initial.line ++ flat_map (look_told l.counts) (below l.number);
      short : length l.line ≤ length l.initial.line + 31 * l.number;
    }
