use Rattle.std.proofs.Common.{Option, ap, sym, ◌∙◌}
use Rattle.std.specs.Option.{option_or}
use Rattle.causes.specs.LinesOf.{first_line, lines_where}
use Rattle.causes.specs.declared.cause.ScriptLine.{ScriptLine}
use Rattle.run_looks.specs.Questions.{is_meant}
use Rattle.run_looks.proofs.questions.widest_line.Goals as goal

pub returns-in-None : goal.returns-in-None
returns-in-None c =
    let other = first_line (lines_where (is_meant c.args.question) c.args.run.now.script) in
    c.first_line.ensures
    ∙ sym (ap (λ (found : Option ScriptLine). option_or found other)
    (sym c.first_on_both.ensures ∙ c.in-None.is))
