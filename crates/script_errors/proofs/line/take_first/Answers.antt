use Rattle.std.proofs.Common.{sym, ◌∙◌}
use Rattle.std.proofs.lemmas.Result.{on_ok_weaker}
use Rattle.script_errors.proofs.Taken.{takes_first, takes_none, takes_comment_line}
use Rattle.script_errors.proofs.line.take_first.Goals as goal

pub returns-then-is_comment : goal.returns-then-is_comment
returns-then-is_comment c = λ before stands.
    takes_comment_line c.args.list.now before _ _ _ _ _ _ _ c.spot_text-name.ensures.text
    (sym c.is_comment.ensures ∙ c.if-is_comment.true) stands

pub returns-in-Some : goal.returns-in-Some
returns-in-Some c = on_ok_weaker c.take_form.result (λ takes before stands.
    takes_first c.args.list.now before _ _ _ _ _ _ _ _ _ c.spot_text-name.ensures.text
    (sym c.is_comment.ensures ∙ c.if-is_comment.false) (sym c.form_named.ensures ∙ c.in-Some.is)
    (takes before stands)) c.take_form.ensures

pub returns-in-None : goal.returns-in-None
returns-in-None c = on_ok_weaker c.tell.result (λ now before stands.
    takes_none c.args.list.now before _ _ _ _ _ _ _ _ c.spot_text-name.ensures.text
    (sym c.is_comment.ensures ∙ c.if-is_comment.false)
    (sym c.form_named.ensures ∙ c.in-None.is) now stands) c.tell.ensures
