use Rattle.trace_check.proofs.Words.{◌∙◌, sym, subst, arith, IfOk-weaker, IsLegalRun, trace_head, IsAmissAt}
use Rattle.std.proofs.lemmas.Result.{IfErr-weaker}
use Rattle.trace_check.proofs.Followed.{followed-at, followed-first, followed-next}
use Rattle.trace_check.proofs.Labels.{passed_up, no_line}
use Rattle.trace_check.proofs.Wholes.{departs-amiss, head-amiss, tests-amiss, tests-trace}
use Rattle.trace_check.proofs.follow.Follower.follow.Goals as goal

pub returns-in_err-rest-clause-wrong : goal.returns-in_err-rest-clause-wrong
returns-in_err-rest-clause-wrong c =
    let list = c.args.list.now in
    let script = c.args.script.now in
    let text = c.args.text.now in
    passed_up c.from_residual.result c.in_err-rest.field-0.0 _ c.from_residual.ensures.1
    (subst (IsAmissAt list script text) (sym c.in_err-rest.ensures.wrong)
    (head-amiss list script c.requires.list c.requires.script text
    (no_line (trace_head list script) text (sym c.behind_header.ensures ∙ c.in_err-rest.ensures.none))))

pub loop-slot-init : goal.loop-slot-init
loop-slot-init c =
    followed-first c.args.self.now c.args.list.now c.args.script.now c.args.text.now c.in_ok-rest.rest.now
    c.requires.stands (sym c.behind_header.ensures ∙ c.in_ok-rest.ensures.ok)

pub follow_slot-requires-clause-stands : goal.follow_slot-requires-clause-stands
follow_slot-requires-clause-stands c =
    followed-at c.loop-slot.self c.args.list.now c.args.script.now c.loop-slot.slot c.args.text.now
    c.loop-slot.rest.now c.loop-slot.invariant

pub returns-in_err-rest-2-clause-wrong : goal.returns-in_err-rest-2-clause-wrong
returns-in_err-rest-2-clause-wrong c =
    let has = c.loop-slot.invariant in
    passed_up c.from_residual-in_err-rest-2.result c.in_err-rest-2.field-0.0 _ c.from_residual-in_err-rest-2.ensures.1
    (departs-amiss c.args.list.now c.args.script.now c.requires.list c.requires.script has.numbers c.args.text.now
    c.loop-slot.rest.now c.in_err-rest-2.field-0.0.text.now (omega (arith, has.count, c.loop-slot-test.true))
    has.legal has.begins (c.in_err-rest-2.ensures.wrong has.numbers has.legal has.stands))

pub loop-slot-preserved : goal.loop-slot-preserved
loop-slot-preserved c =
    let has = c.loop-slot.invariant in
    followed-next c.loop-slot.self c.follow_slot.new.self c.args.list.now c.args.script.now c.loop-slot.slot
    c.args.text.now c.loop-slot.rest.now c.in_ok-rest-2.rest.now has
    (c.in_ok-rest-2.ensures.ok has.numbers has.legal has.stands)

pub returns-clause-ok : goal.returns-clause-ok
returns-clause-ok c =
    let list = c.args.list.now in
    let script = c.args.script.now in
    let has = c.loop-slot.invariant in
    let run : IsLegalRun list script has.numbers =
    record { count = has.count ∙ omega (arith, c.loop-slot-test.false); legal = has.legal } in
    IfOk-weaker c.follow_tests.result _ _ (λ rest is.
    tests-trace list script c.requires.list c.requires.script has.numbers c.args.text.now c.loop-slot.rest.now rest.now
    run has.begins is)
    c.follow_tests.ensures.ok

pub returns-clause-wrong : goal.returns-clause-wrong
returns-clause-wrong c =
    let list = c.args.list.now in
    let script = c.args.script.now in
    let has = c.loop-slot.invariant in
    let run : IsLegalRun list script has.numbers =
    record { count = has.count ∙ omega (arith, c.loop-slot-test.false); legal = has.legal } in
    IfErr-weaker c.follow_tests.result _ _ (λ wrong departs.
    tests-amiss list script c.requires.list c.requires.script has.numbers c.args.text.now c.loop-slot.rest.now
    wrong.text.now run has.begins departs)
    c.follow_tests.ensures.wrong
