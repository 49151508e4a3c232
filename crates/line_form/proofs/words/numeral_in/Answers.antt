use Rattle.std.proofs.Common.{◌≡◌, true, ◌-◌, get_or, arith, sym, ◌∙◌}
use Rattle.std.proofs.lemmas.Grind.{common_steps}
use Rattle.line_form.specs.Kinds.{is_digit, append_digit}
use Rattle.line_form.proofs.Digits.{fold-next, digit-small, within_word, within_most}
use Rattle.line_form.proofs.Digits.{below_power}
use Rattle.line_form.proofs.words.numeral_in.Goals as goal

pub overflow_mul-number : goal.overflow_mul-number
overflow_mul-number c = omega (arith, within_word c.loop-byte.byte-index c.loop-byte.number)

pub overflow_add-number : goal.overflow_add-number
overflow_add-number c =
    let byte = get_or c.args.word.now c.loop-byte.byte-index 0 in
    let digit : is_digit byte ≡ true = sym c.is_ascii_digit.ensures.value ∙ c.if-not-is_ascii_digit.false in
    omega (arith, within_word c.loop-byte.byte-index c.loop-byte.number, digit-small byte digit)

pub loop-byte-preserved : goal.loop-byte-preserved
loop-byte-preserved c =
    let word = c.args.word.now in
    let i = c.loop-byte.byte-index in
    let byte = get_or word i 0 in
    let digit : is_digit byte ≡ true = sym c.is_ascii_digit.ensures.value ∙ c.if-not-is_ascii_digit.false in
    let more = fold-next append_digit word i c.loop-byte-test.true in
    let small = below_power i c.loop-byte.number (byte - 48) c.loop-byte.invariant.2 (digit-small byte digit) in (
      grind (arith, common_steps, digit),
      omega (arith, c.loop-byte.invariant.1, more, c.from.ensures),
      omega (arith, small, c.from.ensures),
    )

pub returns-clause-small : goal.returns-clause-small
returns-clause-small c =
    within_most c.loop-byte.byte-index c.args.most c.loop-byte.number c.loop-byte.invariant.2 (omega arith)
