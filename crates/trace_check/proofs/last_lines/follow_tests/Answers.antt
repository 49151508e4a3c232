use Rattle.trace_check.proofs.Words.{◌∙◌, sym, subst, IfOk-weaker, test_lines, Departs}
use Rattle.trace_check.proofs.Labels.{passed_up, err_by_both}
use Rattle.trace_check.proofs.LastLines.{keep-departs, keep-alone, both-begin, back-departs}
use Rattle.trace_check.proofs.last_lines.follow_tests.Goals as goal

pub returns-in_err-rest-clause-wrong : goal.returns-in_err-rest-clause-wrong
returns-in_err-rest-clause-wrong c =
    let list = c.args.list.now in
    let script = c.args.script.now in
    let text = c.args.text.now in
    passed_up c.from_residual.result c.in_err-rest.field-0.0 _ c.from_residual.ensures.1
    (subst (Departs text (test_lines list script)) (sym c.in_err-rest.ensures.wrong)
    (keep-departs list script c.keeps.result c.keeps.ensures text
    (sym c.behind_keep.ensures ∙ c.in_err-rest.ensures.none)))

pub returns-then-not-has_arm-clause-ok : goal.returns-then-not-has_arm-clause-ok
returns-then-not-has_arm-clause-ok c =
    keep-alone c.args.list.now c.args.script.now c.keeps.result c.keeps.ensures c.args.text.now c.in_ok-rest.rest.now
    (sym c.behind_keep.ensures ∙ c.in_ok-rest.ensures.ok) (sym c.has_arm.ensures ∙ c.if-not-has_arm.true)

pub returns-clause-ok : goal.returns-clause-ok
returns-clause-ok c =
    let list = c.args.list.now in
    let script = c.args.script.now in
    IfOk-weaker c.expect-2.result _ _ (λ rest is.
    both-begin list script c.keeps.result c.keeps.ensures c.returns.result c.returns.ensures
    (sym c.has_arm.ensures ∙ c.if-not-has_arm.false) c.args.text.now c.in_ok-rest.rest.now rest.now
    (sym c.behind_keep.ensures ∙ c.in_ok-rest.ensures.ok) (sym c.behind_back.ensures ∙ is))
    c.expect-2.ensures.ok

pub returns-clause-wrong : goal.returns-clause-wrong
returns-clause-wrong c =
    let list = c.args.list.now in
    let script = c.args.script.now in
    err_by_both c.expect-2.result _ _ (λ wrong. Departs c.args.text.now (test_lines list script) wrong.text.now)
    (λ wrong none is. subst (Departs c.args.text.now (test_lines list script)) (sym is)
    (back-departs list script c.keeps.result c.keeps.ensures c.returns.result c.returns.ensures
    (sym c.has_arm.ensures ∙ c.if-not-has_arm.false) c.args.text.now c.in_ok-rest.rest.now
    (sym c.behind_keep.ensures ∙ c.in_ok-rest.ensures.ok) (sym c.behind_back.ensures ∙ none)))
    c.expect-2.ensures.none c.expect-2.ensures.wrong
