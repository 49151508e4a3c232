use Rattle.chart_text.proofs.Taken.{ahead-taken}
use Rattle.chart_text.proofs.ahead.Ahead.new.Goals as goal

pub returns : goal.returns
returns c =
    ahead-taken c.next_fault-first.result c.args.faults c.next_fault-first.new.self c.next_fault-first.ensures.some
    c.next_fault-first.ensures.none
