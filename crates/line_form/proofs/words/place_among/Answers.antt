use Rattle.std.proofs.Common.{◌∙◌, sym, false, true}
use Rattle.line_form.proofs.Places.{place-next}
use Rattle.line_form.proofs.words.place_among.Goals as goal

pub loop-place-preserved : goal.loop-place-preserved
loop-place-preserved c =
    c.loop-place.invariant
    ∙ place-next c.args.texts.now c.loop-place.place _ c.args.word.now false c.loop-place-test.true
    (sym c.is_text.ensures ∙ c.if-is_text.false)

pub returns-then-is_text-clause-value : goal.returns-then-is_text-clause-value
returns-then-is_text-clause-value c =
    sym (c.loop-place.invariant
    ∙ place-next c.args.texts.now c.loop-place.place _ c.args.word.now true c.loop-place-test.true
    (sym c.is_text.ensures ∙ c.if-is_text.true))
