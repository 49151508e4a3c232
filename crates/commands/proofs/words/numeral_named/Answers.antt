use Rattle.std.proofs.Common.{◌≡◌, ℕ, ◌+◌, ◌*◌, ◌^◌, ◌<◌, ◌≤◌, true, ◌-◌, get_or, arith, lit<, sym, ◌∙◌}
use Rattle.std.proofs.Math.Nat.{pow-le-pow_right}
use Rattle.std.proofs.lemmas.Grind.{common_steps, pow_more}
use Rattle.ttp_world.specs.TraceNumbers.{is_digit, append_digit}
use Rattle.line_text.proofs.ForAbove.{fold-next, digit-small, within_most}
use Rattle.ttp_world.proofs.SmallTests.{below_power}
use Rattle.commands.proofs.words.numeral_named.Goals as goal

-- one digit more stays within the width
within_wide : (i number : ℕ) → number < 10 ^ i → i < 20 → number * 10 + 9 < 2 ^ 128
within_wide i number small few =
    let most : 10 ^ (i + 1) ≤ 10 ^ 20 = pow-le-pow_right {n = 10} (lit< tt) {i = i + 1} {j = 20} (omega arith) in
    omega (arith, pow_more 10 i, most)

pub overflow_mul-number : goal.overflow_mul-number
overflow_mul-number c = omega (arith, within_wide c.loop-byte.byte-index c.loop-byte.number)

pub overflow_add-number : goal.overflow_add-number
overflow_add-number c =
    let byte = get_or c.args.word.now c.loop-byte.byte-index 0 in
    let digit : is_digit byte ≡ true = sym c.is_ascii_digit.ensures.value ∙ c.if-not-is_ascii_digit.false in
    omega (arith, within_wide c.loop-byte.byte-index c.loop-byte.number, digit-small byte digit)

pub loop-byte-preserved : goal.loop-byte-preserved
loop-byte-preserved c =
    let word = c.args.word.now in
    let i = c.loop-byte.byte-index in
    let byte = get_or word i 0 in
    let digit : is_digit byte ≡ true = sym c.is_ascii_digit.ensures.value ∙ c.if-not-is_ascii_digit.false in
    let more = fold-next append_digit word i c.loop-byte-test.true in
    let small = below_power i c.loop-byte.number (byte - 48) c.loop-byte.invariant.2 (digit-small byte digit) in (
      grind (arith, common_steps, digit),
      omega (arith, c.loop-byte.invariant.1, more, c.from.ensures),
      omega (arith, small, c.from.ensures),
    )

pub returns-clause-small : goal.returns-clause-small
returns-clause-small c =
    within_most c.loop-byte.byte-index c.args.most c.loop-byte.number c.loop-byte.invariant.2 (omega arith)
