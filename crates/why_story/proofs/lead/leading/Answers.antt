use Rattle.std.proofs.Common.{◌-◌, true, false, drop, sym, ◌∙◌, arith}
use Rattle.causes.specs.Story.{leading}
use Rattle.why_story.proofs.Within.{leading-more, leading-within}
use Rattle.why_story.proofs.lead.leading.Goals as goal

pub returns-in_err-back-clause-within : goal.returns-in_err-back-clause-within
returns-in_err-back-clause-within c = leading-within c.args.slots c.args.told.now c.requires

pub loop-place-preserved-then-leads_back : goal.loop-place-preserved-then-leads_back
loop-place-preserved-then-leads_back c =
    let place = c.loop-place.place in (
      omega (arith, c.loop-place.invariant.0),
      leading-more c.args.slots c.args.told.now place (place - 1) c.index-told-place.result true c.loop-place.back _
          (omega (arith, c.loop-place-test.true))
          (omega (arith, c.loop-place-test.true, c.loop-place.invariant.0)) c.index-told-place.is c.requires
          c.loop-place.invariant.1
          (λ spots are within. sym c.if-leads_back.true ∙ c.leads_back.ensures c.args.slots spots are within)
          (c.mark.ensures c.args.slots (leading (drop place c.args.told.now)) c.loop-place.invariant.1),
    )

pub loop-place-preserved : goal.loop-place-preserved
loop-place-preserved c =
    let place = c.loop-place.place in (
      omega (arith, c.loop-place.invariant.0),
      leading-more c.args.slots c.args.told.now place (place - 1) c.index-told-place.result false c.loop-place.back _
          (omega (arith, c.loop-place-test.true))
          (omega (arith, c.loop-place-test.true, c.loop-place.invariant.0)) c.index-told-place.is c.requires
          c.loop-place.invariant.1
          (λ spots are within. sym c.if-leads_back.false ∙ c.leads_back.ensures c.args.slots spots are within)
          c.loop-place.invariant.1,
    )

pub returns-clause-within : goal.returns-clause-within
returns-clause-within c = leading-within c.args.slots c.args.told.now c.requires
