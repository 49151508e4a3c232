use Rattle.script_text.proofs.Terms.{◌≡◌, true, ◌+◌, ◌*◌, ◌-◌, ℕ, get_or, take, arith, sym, ap, ◌∙◌, is_ascii_digit}
use Rattle.script_text.proofs.Terms.{common_steps, length-take}
use Rattle.script_text.proofs.Digits.{number_in-more, digit-small, within_word}
use Rattle.ttp_world.proofs.SmallTests.{below_power}
use Rattle.script_text.proofs.number.front_digits.Goals as goal

pub overflow_mul-number : goal.overflow_mul-number
overflow_mul-number c =
    omega (arith, within_word c.loop-count.count c.loop-count.number, length-take c.min.result c.args.text.now)

pub overflow_add-number : goal.overflow_add-number
overflow_add-number c =
    let front = take c.min.result c.args.text.now in
    let byte = get_or front c.loop-count.count 0 in
    let digit : is_ascii_digit byte ≡ true = sym c.is_ascii_digit.ensures.value ∙ c.if-not-is_ascii_digit.false in
    omega (
      arith,
      within_word c.loop-count.count c.loop-count.number,
      length-take c.min.result c.args.text.now,
      digit-small byte digit,
    )

pub loop-count-preserved : goal.loop-count-preserved
loop-count-preserved c =
    let front = take c.min.result c.args.text.now in
    let i = c.loop-count.count in
    let byte = get_or front i 0 in
    let digit : is_ascii_digit byte ≡ true = sym c.is_ascii_digit.ensures.value ∙ c.if-not-is_ascii_digit.false in
    let more = number_in-more front i c.loop-count-test.true digit in
    let small = below_power i c.loop-count.number (byte - 48) c.loop-count.invariant.2 (digit-small byte digit) in (
      grind (arith, common_steps, digit),
      ap (λ (n : ℕ). n * 10 + c.from.result) c.loop-count.invariant.1 ∙ rw c.from.ensures (sym more),
      omega (arith, small, c.from.ensures),
    )
