use Rattle.std.proofs.Common.{SFits, rules, unsigned_abs, w64, ap, sym, ◌∙◌, arith}
use Rattle.std.proofs.lemmas.Int.{to_z-of_z}
use Rattle.ground_tests.proofs.tests.slots.goes.Goals as goal

pub take-requires-clause-a : goal.take-requires-clause-a
take-requires-clause-a c =
    let list = c.plan.ensures.same.list ∙ (c.begin.ensures.same.list ∙ sym c.requires.list) in
    let clock_fits : SFits w64 c.clock.result = search rules in
    let window_fits : SFits w64 c.args.list.now.window = search rules in
    omega (
      arith,
      ap (λ l. unsigned_abs l.window) list,
      c.unsigned_abs.ensures.value,
      ap unsigned_abs (to_z-of_z w64 c.args.list.now.window window_fits),
      c.if-unsigned_abs-gt1000.false,
      ap unsigned_abs (c.plan.ensures.clock ∙ sym c.clock.ensures),
      c.unsigned_abs-else-intent-eq2.ensures.value,
      ap unsigned_abs (to_z-of_z w64 c.clock.result clock_fits),
      c.if-unsigned_abs-gt2000.false,
      c.requires.a,
      c.requires.error,
      ap unsigned_abs (to_z-of_z w64 c.args.error c.ranges.error),
      c.requires.drift,
      ap unsigned_abs (to_z-of_z w64 c.args.drift c.ranges.drift),
    )

pub take-requires-clause-b : goal.take-requires-clause-b
take-requires-clause-b c =
    let list = c.plan.ensures.same.list ∙ (c.begin.ensures.same.list ∙ sym c.requires.list) in
    let clock_fits : SFits w64 c.clock.result = search rules in
    let window_fits : SFits w64 c.args.list.now.window = search rules in
    omega (
      arith,
      ap (λ l. unsigned_abs l.window) list,
      c.unsigned_abs.ensures.value,
      ap unsigned_abs (to_z-of_z w64 c.args.list.now.window window_fits),
      c.if-unsigned_abs-gt1000.false,
      ap unsigned_abs (c.plan.ensures.clock ∙ sym c.clock.ensures),
      c.unsigned_abs-else-intent-eq2.ensures.value,
      ap unsigned_abs (to_z-of_z w64 c.clock.result clock_fits),
      c.if-unsigned_abs-gt2000.false,
      c.requires.b,
      c.requires.error,
      ap unsigned_abs (to_z-of_z w64 c.args.error c.ranges.error),
      c.requires.drift,
      ap unsigned_abs (to_z-of_z w64 c.args.drift c.ranges.drift),
    )
