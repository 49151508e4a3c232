use Rattle.std.proofs.Common.{arith}
use Rattle.why_answers.proofs.TraceHeads.{text-begins, told-in_trace}
use Rattle.why_answers.proofs.laws.lines_begin_as_in_the_trace.Goals as goal

pub returns-clause-text : goal.returns-clause-text
returns-clause-text c = text-begins c.args.list.now c.args.script.now c.args.numbers.now

pub returns-clause-trace : goal.returns-clause-trace
returns-clause-trace c = λ numbers k slot legal less.
    let count = legal.count in
    told-in_trace c.args.list.now c.args.script.now numbers k slot c.requires.script
    legal.legal (omega (arith, count, less))
