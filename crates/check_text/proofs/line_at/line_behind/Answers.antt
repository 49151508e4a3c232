use Rattle.std.proofs.Common.{sym, ◌∙◌}
use Rattle.script_text.specs.Lines.{lines_of_file}
use Rattle.check_text.proofs.LinesAt.{at_next, at_past}
use Rattle.check_text.proofs.line_at.line_behind.Goals as goal

pub returns-in-Some-clause-at : goal.returns-in-Some-clause-at
returns-in-Some-clause-at c = λ text is.
    let step = at_next (lines_of_file text) c.args.at.number _ _ (sym is.rest ∙ c.in-Some.ensures.some) in
    record { piece = step.0; rest = step.1 }

pub returns-in-None-clause-at : goal.returns-in-None-clause-at
returns-in-None-clause-at c = λ text is.
    let step = at_past (lines_of_file text) c.args.at.number c.args.number (sym is.rest ∙ c.in-None.ensures.none)
    c.requires in
    record { piece = step.0; rest = c.in-None.ensures.none ∙ step.1 }
