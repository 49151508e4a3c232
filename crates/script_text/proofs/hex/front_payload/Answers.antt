use Rattle.script_text.proofs.Terms.{ℕ, ◌+◌, ◌*◌, ◌++◌, List, take, drop, refl, arith, sym, ap, ◌∙◌, digit_bytes_in}
use Rattle.std.proofs.lemmas.Bool.{false≢true}
use Rattle.std.proofs.lemmas.List.{take_more_set, length-set, get_or-set_other}
use Rattle.script_text.proofs.HexDigits.{right_pair, pair_byte, wrong_high, wrong_low}
use Rattle.script_text.proofs.Zeros.{get_or-zeros, zeros_behind}
use Rattle.script_text.proofs.hex.front_payload.Goals as goal
use Rattle.script_text.proofs.hex.front_payload.Goals.{then-high-ge16-via-then-high-ge16}
use Rattle.script_text.proofs.hex.front_payload.Goals.{then-high-ge16-via-else-high-ge16+then-low-ge16}

pub loop-i-init : goal.loop-i-init
loop-i-init c = record { room = refl; bytes = refl; digits = refl; zeros = λ k _. get_or-zeros 240 k }

pub returns-then-high-ge16 : goal.returns-then-high-ge16
returns-then-high-ge16 c =
    let text = c.args.text.now in
    let size = c.args.size in
    let i = c.loop-i.i in
    elim c.then-high-ge16.branch [
      | then-high-ge16-via-then-high-ge16 w ↦ λ yes. false≢true
          (sym (wrong_high text size i c.digit_of-high.result c.digit_of-low.result c.requires.within (omega arith)
          c.digit_of-high.ensures c.digit_of-low.ensures (omega arith)) ∙ c.loop-i.invariant.digits ∙ yes)
      | then-high-ge16-via-else-high-ge16+then-low-ge16 w ↦ λ yes. false≢true
          (sym (wrong_low text size i c.digit_of-high.result c.digit_of-low.result c.requires.within (omega arith)
          c.digit_of-high.ensures c.digit_of-low.ensures (omega arith) (omega arith)) ∙ c.loop-i.invariant.digits ∙ yes)
    ]

pub loop-i-preserved : goal.loop-i-preserved
loop-i-preserved c =
    let text = c.args.text.now in
    let size = c.args.size in
    let i = c.loop-i.i in
    let bytes = c.loop-i.bytes in
    let high = c.digit_of-high.result in
    let low = c.digit_of-low.result in
    let word = take (2 * size) text in
    record {
      room = length-set bytes i (16 * high + low) ∙ c.loop-i.invariant.room;
      bytes = ap (λ (l : List ℕ). l ++ digit_bytes_in (drop (2 * (i + 1)) word))
          (take_more_set bytes i (16 * high + low) (omega (arith, c.loop-i.invariant.room)))
          ∙ pair_byte text (take i bytes) size i high low c.requires.within (omega arith)
          c.digit_of-high.ensures c.digit_of-low.ensures
          ∙ c.loop-i.invariant.bytes;
      digits = right_pair text size i high low c.requires.within (omega arith) c.digit_of-high.ensures
          c.digit_of-low.ensures (omega arith) (omega arith) ∙ c.loop-i.invariant.digits;
      zeros = λ k near. get_or-set_other bytes i k (16 * high + low) 0 (omega arith)
          ∙ c.loop-i.invariant.zeros k (omega arith);
    }

pub invariant_of-result : goal.invariant_of-result
invariant_of-result c = (
  c.requires.small,
  zeros_behind c.loop-i.bytes 240 c.args.size c.loop-i.invariant.room
      (λ k near. c.loop-i.invariant.zeros k (omega arith)),
)
