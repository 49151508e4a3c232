-- Flipped bits of bytes.
use Rattle.std.proofs.Common.{◌≡◌, ℕ, zero, suc, ◌+◌, ◌-◌, ◌*◌, ◌/◌, ◌%◌, ◌^◌, ◌<◌, ◌≤◌, List, [], ◌∷◌, length, get_or}
use Rattle.std.proofs.Common.{map, refl, ap, sym, ◌∙◌, zero-add, arith}
use Rattle.std.proofs.Math.ListN.{set}
use Rattle.std.specs.Int.RustNames.{bit_xor}
use Rattle.std.proofs.lemmas.Bool.{lt-ltb, le-ltb}
use Rattle.std.proofs.lemmas.List.FromFn.{get_or-map-range_with_len}
use Rattle.ttp_base.specs.NodeSet.{below}
use Rattle.ttp_world.specs.Medium.{flip_in_byte, flip_bit}

-- A bit of a byte is flipped by exclusive or.

abbrev by_xor : ℕ → ℕ → ℕ
by_xor place byte = bit_xor byte (1 * 2 ^ place % 256)

abbrev bytes_by : (ℕ → ℕ → ℕ) → ℕ → List ℕ
bytes_by flip place = map (flip place) (below 256)

-- at each place of each byte, as is computed
all_by_xor : map (bytes_by by_xor) (below 8) ≡ map (bytes_by flip_in_byte) (below 8)
all_by_xor = refl

pub flip_in_byte-xor : (place byte : ℕ) → place < 8 → byte < 256 → by_xor place byte ≡ flip_in_byte place byte
flip_in_byte-xor place byte there fits =
    sym (entry by_xor) ∙ ap (λ rows. get_or (get_or rows place []) byte 0) all_by_xor ∙ entry flip_in_byte
  where
    entry : (flip : ℕ → ℕ → ℕ) → get_or (get_or (map (bytes_by flip) (below 8)) place []) byte 0 ≡ flip place byte
    entry flip =
        ap (λ row. get_or row byte 0)
        (get_or-map-range_with_len (bytes_by flip) 0 8 place place [] there (zero-add place))
        ∙ get_or-map-range_with_len (flip place) 0 256 byte byte 0 fits (zero-add byte)

-- A bit of bytes is flipped in its byte, if it is not past the end.

flips_at : (bytes : List ℕ) (bit at place : ℕ) → bit ≡ 8 * at + place → place < 8 → at < length bytes
    → flip_bit bytes bit ≡ set bytes at (flip_in_byte (7 - place) (get_or bytes at 0))
flips_at [] bit at place is there within = absurd (omega arith)
flips_at (byte ∷ bytes) bit zero place is there within =
    let same : bit ≡ place = omega arith in
    let small : bit < 8 = omega arith in
    rw (lt-ltb bit 8 small, same) refl
flips_at (byte ∷ bytes) bit (suc at) place is there within =
    let large : 8 ≤ bit = omega arith in
    rw (le-ltb bit 8 large)
    (ap (λ rest. byte ∷ rest) (flips_at bytes (bit - 8) at place (omega arith) there (omega arith)))

keeps_past : (bytes : List ℕ) (bit at place : ℕ) → bit ≡ 8 * at + place → length bytes ≤ at → flip_bit bytes bit ≡ bytes
keeps_past [] bit at place is past = refl
keeps_past (byte ∷ bytes) bit zero place is past = absurd (omega arith)
keeps_past (byte ∷ bytes) bit (suc at) place is past =
    let large : 8 ≤ bit = omega arith in
    rw (le-ltb bit 8 large) (ap (λ rest. byte ∷ rest) (keeps_past bytes (bit - 8) at place (omega arith) (omega arith)))

pub flip_bit-at : (bytes : List ℕ) (bit : ℕ) → bit / 8 < length bytes
    → flip_bit bytes bit ≡ set bytes (bit / 8) (flip_in_byte (7 - bit % 8) (get_or bytes (bit / 8) 0))
flip_bit-at bytes bit within = flips_at bytes bit (bit / 8) (bit % 8) (omega arith) (omega arith) within

pub flip_bit-past : (bytes : List ℕ) (bit : ℕ) → length bytes ≤ bit / 8 → flip_bit bytes bit ≡ bytes
flip_bit-past bytes bit past = keeps_past bytes bit (bit / 8) (bit % 8) (omega arith) past
