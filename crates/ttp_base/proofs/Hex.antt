-- Hexadecimal digits, written from the last one to the first, and two for each byte.
use Rattle.std.proofs.Common.{◌≡◌, ℕ, zero, suc, ◌+◌, ◌-◌, ◌*◌, ◌/◌, ◌%◌, ◌<◌}
use Rattle.std.proofs.Common.{◌≤◌, List, [], ◌∷◌, ◌++◌, length, drop, set}
use Rattle.std.proofs.Common.{refl, sym, ap, ◌∙◌, append_assoc, arith}
use Rattle.std.proofs.lemmas.List.{drop-set}
use Rattle.ttp_base.specs.Text.{hex_digit, hex, hex_bytes}

-- one digit more stands at the end, and one less is due
pub hex_step : (start place rest : ℕ) (text : List ℕ) → start < place → place ≤ length text
    → hex (place - 1 - start) (rest / 16) ++ drop (place - 1) (set text (place - 1) (hex_digit (rest % 16)))
    ≡ hex (place - start) rest ++ drop place text
hex_step start place rest text above within =
    let counts : place - start ≡ suc (place - 1 - start) = omega arith in
    let back : place - 1 + 1 ≡ place = omega arith in
    let inside : place - 1 < length text = omega arith in
    rw (drop-set text (place - 1) (hex_digit (rest % 16)) inside, back, counts)
    (sym (append_assoc (hex (place - 1 - start) (rest / 16)) (hex_digit (rest % 16) ∷ []) (drop place text)))

-- two digits for each byte
pub length-hex_bytes : (bs : List ℕ) → length (hex_bytes bs) ≡ 2 * length bs
length-hex_bytes [] = refl
length-hex_bytes (b ∷ bs) = omega (arith, length-hex_bytes bs)

-- The lowest digits of a number are those of its rest.

-- a number with so many digits behind it
abbrev shifted : ℕ → ℕ → ℕ
shifted zero q = q
shifted (suc digits) q = 16 * shifted digits q

hex-front : (digits q v : ℕ) → hex digits (shifted digits q + v) ≡ hex digits v
hex-front zero q v = refl
hex-front (suc digits) q v =
    let t = shifted digits q in
    let front : (16 * t + v) / 16 ≡ t + v / 16 = omega arith in
    let last : (16 * t + v) % 16 ≡ v % 16 = omega arith in
    rw (front, last) (ap (λ (text : List ℕ). text ++ hex_digit (v % 16) ∷ []) (hex-front digits q (v / 16)))

pub six_digits : (v : ℕ) → hex 6 (v % 16777216) ≡ hex 6 v
six_digits v =
    let q = v / 16777216 in
    let is : shifted 6 q + v % 16777216 ≡ v = omega arith in
    sym (hex-front 6 q (v % 16777216)) ∙ ap (hex 6) is

pub four_digits : (v : ℕ) → hex 4 (v % 65536) ≡ hex 4 v
four_digits v =
    let q = v / 65536 in
    let is : shifted 4 q + v % 65536 ≡ v = omega arith in
    sym (hex-front 4 q (v % 65536)) ∙ ap (hex 4) is
