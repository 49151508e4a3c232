use Rattle.chart_text.proofs.Words.{◌≡◌, ◌+◌, ◌≤◌, true, Bool, length, flat_map, Output, in_order_from, Puts}
use Rattle.chart_text.proofs.Words.{faults_told_in, mark_lines, SameFrom, longest_text}
use Rattle.chart_text.proofs.column.put_marks.Given as goal

-- the marks so far were put
abbrev pub invariant-loop-fault : goal.invariant-loop-fault
invariant-loop-fault g l =
    record {
      puts : (fails : Bool) (now : Output)
          → Puts l.sheet.failed (g.K.Sink.output l.out) fails now
          (flat_map (mark_lines l.extent.size l.column.number) (faults_told_in l.column.slot l.ahead))
          → Puts l.fn.sheet.failed (g.K.Sink.output l.fn.out) fails now
          (flat_map (mark_lines l.extent.size l.column.number) (faults_told_in l.column.slot l.fn.ahead));
      same : SameFrom (l.column.slot + 1) l.fn.ahead l.ahead;
      order : in_order_from l.column.slot l.ahead ≡ true;
      few : length l.ahead ≤ length l.fn.ahead;
      short : longest_text l.ahead ≤ longest_text l.fn.ahead;
      room : l.buffer.room ≡ l.fn.buffer.room;
    }

abbrev pub decreases-loop-fault : goal.decreases-loop-fault
decreases-loop-fault g l = length l.ahead
