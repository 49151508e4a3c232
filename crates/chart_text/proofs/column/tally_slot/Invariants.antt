use Rattle.chart_text.proofs.Words.{◌≡◌, ◌≤◌, true, length, in_order_from, faults_told_in, AreTallies}
use Rattle.chart_text.proofs.column.tally_slot.Given as goal

-- the faults so far were counted
abbrev pub invariant-loop-fault : goal.invariant-loop-fault
invariant-loop-fault l =
    record {
      tallies : AreTallies l.size l.tallies (faults_told_in l.slot l.ahead) (faults_told_in l.slot l.from);
      order : in_order_from l.slot l.ahead ≡ true;
      few : length l.ahead ≤ length l.from;
    }

abbrev pub decreases-loop-fault : goal.decreases-loop-fault
decreases-loop-fault l = length l.ahead
