use Rattle.std.proofs.Common.{List, Option, ap, sym, ◌∙◌, subst}
use Rattle.ttp_world.specs.declared.medl.Medl.{Medl}
use Rattle.script_text.specs.ScriptFile.{script_of}
use Rattle.script_errors.specs.declared.error.ScriptError.{ScriptError}
use Rattle.script_errors.specs.Agrees.{Agrees}
use Rattle.script_errors.specs.Errors.{script_errors}
use Rattle.script_errors.proofs.WholeAgree.{agrees}
use Rattle.script_errors.proofs.read.script_errors.Goals as goal

pub returns-clause-agrees : goal.returns-clause-agrees
returns-clause-agrees c = λ right is.
    let text = c.args.text.now in
    subst (λ (es : List ScriptError). Agrees es (script_of right text))
    (sym (c.in_ok-found.ensures ∙ ap (λ (l : Option Medl). script_errors l c.args.may_be_list text) is))
    (agrees right c.args.may_be_list text)
