use Rattle.chart_text.proofs.Words.{◌≡◌, ◌+◌, ◌*◌, ◌≤◌, Bool, Output, drop, Puts, list_lines, longest_text}
use Rattle.chart_text.proofs.listed.put_list.Given as goal

-- the faults so far were listed
abbrev pub invariant-loop-number : goal.invariant-loop-number
invariant-loop-number g l =
    record {
      puts : (fails : Bool) (now : Output)
          → Puts l.sheet.failed (g.K.Sink.output l.out) fails now
          (list_lines l.size (l.top + 20 * l.number) (drop l.number l.worst))
          → Puts l.fn.sheet.failed (g.K.Sink.output l.fn.out) fails now (list_lines l.size l.top l.worst);
      short : longest_text (drop l.number l.worst) ≤ longest_text l.worst;
      room : l.buffer.room ≡ l.fn.buffer.room;
    }
