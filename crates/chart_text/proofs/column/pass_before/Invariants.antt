use Rattle.chart_text.proofs.Words.{◌≡◌, ◌≤◌, true, length, in_order_from, SameFrom, longest_text}
use Rattle.chart_text.proofs.column.pass_before.Given as goal

-- faults of earlier slots were passed
abbrev pub invariant-loop-fault : goal.invariant-loop-fault
invariant-loop-fault l =
    record {
      same : SameFrom l.slot l.fn.ahead l.ahead;
      order : in_order_from 0 l.ahead ≡ true;
      few : length l.ahead ≤ length l.fn.ahead;
      short : longest_text l.ahead ≤ longest_text l.fn.ahead;
    }

abbrev pub decreases-loop-fault : goal.decreases-loop-fault
decreases-loop-fault l = length l.ahead
