use Rattle.std.proofs.Common.{◌≡◌, ℕ, ◌+◌, ◌*◌, ◌++◌, ◌∷◌, [], ◌<◌, true, List, length, length-append, get_or, drop}
use Rattle.std.proofs.Common.{arith, sym, ap, ◌∙◌}
use Rattle.line_form.specs.Kinds.{is_hex, hex_value, byte_pairs}
use Rattle.line_form.proofs.Digits.{hex_bytes-next, all_hex-next}
use Rattle.line_form.proofs.words.payload_in.Goals as goal

pub loop-i-preserved : goal.loop-i-preserved
loop-i-preserved g c =
    let word = c.args.word.now in
    let i = c.loop-i.i in
    let bytes = c.loop-i.bytes in
    let byte = 16 * c.hex_value.result + c.hex_value-in-loop-i.result in
    let within : 2 * i + 1 < length word = omega (arith, c.loop-i-test.true) in
    let is : byte ≡ 16 * hex_value (get_or word (2 * i) 0) + hex_value (get_or word (2 * i + 1) 0) =
    omega (arith, c.hex_value.ensures.value, c.hex_value-in-loop-i.ensures.value) in
    let high : is_hex (get_or word (2 * i) 0) ≡ true = sym c.is_hex.ensures ∙ c.if-not-is_hex.false in
    let low : is_hex (get_or word (2 * i + 1) 0) ≡ true =
    sym c.is_hex-else-not-is_hex.ensures ∙ c.if-not-is_hex-2.false in (
      omega (arith, ap length c.put_bytes.ensures, length-append bytes (byte ∷ []), c.loop-i.invariant.0),
      ap (λ (l : List ℕ). l ++ byte_pairs (drop (2 * (i + 1)) word)) c.put_bytes.ensures
          ∙ hex_bytes-next bytes word i byte within is ∙ c.loop-i.invariant.1,
      all_hex-next word i within high low ∙ c.loop-i.invariant.2,
    )
