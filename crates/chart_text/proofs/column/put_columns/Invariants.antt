use Rattle.chart_text.proofs.Words.{◌≡◌, ◌≤◌, true, length, filter, below, lines_below, in_order_from, Puts}
use Rattle.chart_text.proofs.Words.{column_lines, shown_before, has_mark, longest_text, marked_slots, SameFrom}
use Rattle.chart_text.proofs.column.put_columns.Given as goal

-- the columns so far were put
abbrev pub invariant-loop-slot : goal.invariant-loop-slot
invariant-loop-slot g l =
    record {
      count : l.number ≡ length (filter (has_mark l.marks) (below l.slot));
      low : l.number ≤ l.slot;
      before : l.before ≡ shown_before (marked_slots l.marks) l.number;
      puts : Puts l.fn.sheet.failed (g.K.Sink.output l.fn.out) l.sheet.failed (g.K.Sink.output l.out)
          (lines_below (column_lines l.extent.size (marked_slots l.marks) l.fn.ahead) l.number);
      same : SameFrom l.slot l.fn.ahead l.ahead;
      order : in_order_from 0 l.ahead ≡ true;
      few : length l.ahead ≤ length l.fn.ahead;
      short : longest_text l.ahead ≤ longest_text l.fn.ahead;
      room : l.buffer.room ≡ l.fn.buffer.room;
    }
