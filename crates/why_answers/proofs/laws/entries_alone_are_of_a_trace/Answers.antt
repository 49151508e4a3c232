use Rattle.std.proofs.Common.{arith}
use Rattle.causes.specs.Reduced.{places_of_lines, with_faults_at}
use Rattle.why_answers.proofs.FromBelow.{with_faults_at-valid}
use Rattle.why_answers.proofs.TraceHeads.{trace-begins}
use Rattle.why_answers.proofs.laws.entries_alone_are_of_a_trace.Goals as goal

pub returns : goal.returns
returns c = λ numbers k slot legal node less.
    let list = c.args.list.now in
    let script = c.args.script.now in
    let places = places_of_lines c.args.lines.now in
    let count = legal.count in
    trace-begins list (with_faults_at places script) numbers slot k (omega (arith, count, less)) node
    (with_faults_at-valid list script places c.requires.script) legal.legal
