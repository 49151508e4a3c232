-- How long the text of a word and of a line is at most, over all descriptions.
use Rattle.std.proofs.Common.{◌≡◌, ℕ, zero, suc, ◌*◌, ◌^◌, ◌<◌, ◌≤◌, Bool, true, false, cond, ◌&&◌, not, max}
use Rattle.std.proofs.Common.{ℤ, pos, negsuc, List, [], ◌∷◌, ◌++◌, length, map, Some, None, refl}
use Rattle.std.proofs.Common.{arith, decimal, length-append, unsigned_abs}
use Rattle.std.specs.Prelude.{nat_le}
use Rattle.std.specs.Fmt.{signed_decimal}
use Rattle.std.specs.List.{list_all}
use Rattle.std.proofs.Math.Nat.{mul-le-mul_right, suc-mul}
use Rattle.std.proofs.lemmas.Bool.{and_parts, leb-true, ltb-true}
use Rattle.std.proofs.lemmas.Fmt.{length-decimal-le}
use Rattle.ttp_base.proofs.Hex.{length-hex_bytes}
use Rattle.ttp_base.proofs.Room.{length-hex}
use Rattle.line_form.specs.declared.named.Named.TheVariants as choice
use Rattle.line_form.specs.Kinds.{Kind, number, signed, hexed, hexed_or, one_of, payload}
use Rattle.line_form.specs.Kinds.{or_dash, commas, named, joined, free, Value}
use Rattle.line_form.specs.Kinds.{spell, fits_kind, sound, avoids, has_byte, each_behind}
use Rattle.line_form.specs.Kinds.{listed_words, longest, longest_number}
use Rattle.line_form.specs.Kinds.{digits_below, is_byte}
use Rattle.line_form.specs.Forms.{LineForm, Values, spelled, fit, well, goes_on, longest_line}
use Rattle.line_form.proofs.PlaceLaws.{place-length}

digits-fit : (more d limit n : ℕ) → 0 < d → n < limit → limit ≤ 10 ^ 18 → length (decimal n) ≤ digits_below more d limit
digits-fit zero d limit n some less few = length-decimal-le 20 n (omega arith) (omega arith) (omega arith)
digits-fit (suc more) d limit n some less few =
    go (nat_le limit (10 ^ d)) refl (digits-fit more (suc d) limit n (omega arith) less few)
  where
    go : (is : Bool) → nat_le limit (10 ^ d) ≡ is → length (decimal n) ≤ digits_below more (suc d) limit
        → length (decimal n) ≤ cond is d (digits_below more (suc d) limit)
    go true is other = length-decimal-le d n some (omega (arith, leb-true limit (10 ^ d) is)) (omega arith)
    go false is other = other

number-length : (limit n : ℕ) → n < limit → limit ≤ 10 ^ 18 → length (decimal n) ≤ longest_number limit
number-length limit n less few = digits-fit 18 1 limit n (omega arith) less few

signed-length : (limit : ℕ) (z : ℤ) → unsigned_abs z < limit → limit ≤ 10 ^ 18
    → length (signed_decimal z) ≤ suc (longest_number limit)
signed-length limit (pos n) less few = omega (arith, number-length limit n less few)
signed-length limit (negsuc n) less few = omega (arith, number-length limit (suc n) less few)

each-length : (k : Kind) (most : ℕ) (values : List (Value k)) → list_all (fits_kind k) values ≡ true
    → ((v : Value k) → fits_kind k v ≡ true → length (spell k v) ≤ most)
    → length (each_behind 44 (map (spell k) values)) ≤ length values * suc most
each-length k most [] fit_all short = omega arith
each-length k most (v ∷ values) fit_all short =
    let t = and_parts (fits_kind k v) (list_all (fits_kind k) values) fit_all in
    omega (
      arith,
      length-append (spell k v) (each_behind 44 (map (spell k) values)),
      short v t.0,
      each-length k most values t.1 short,
      suc-mul (length values) (suc most),
    )

list-length : (k : Kind) (most : ℕ) (values : List (Value k)) → list_all (fits_kind k) values ≡ true
    → ((v : Value k) → fits_kind k v ≡ true → length (spell k v) ≤ most)
    → length (listed_words (map (spell k) values)) ≤ max 1 (length values * suc most)
list-length k most [] fit_all short = omega arith
list-length k most (v ∷ values) fit_all short =
    let t = and_parts (fits_kind k v) (list_all (fits_kind k) values) fit_all in
    omega (
      arith,
      length-append (spell k v) (each_behind 44 (map (spell k) values)),
      short v t.0,
      each-length k most values t.1 short,
      suc-mul (length values) (suc most),
    )

pub word-length : (k : Kind) (v : Value k) → sound k ≡ true → fits_kind k v ≡ true → length (spell k v) ≤ longest k
word-length (number limit) n so fit_v =
    number-length limit n (ltb-true n limit fit_v) (leb-true limit (10 ^ 18) so)
word-length (signed limit) z so fit_v =
    signed-length limit z (ltb-true (unsigned_abs z) limit fit_v) (leb-true limit (10 ^ 18) so)
word-length (hexed digits) n so fit_v = omega (arith, length-hex digits n)
word-length (hexed_or few many) (true, n) so fit_v = omega (arith, length-hex many n)
word-length (hexed_or few many) (false, n) so fit_v = omega (arith, length-hex few n)
word-length (one_of texts) i so fit_v = place-length texts i
word-length (payload most) bytes so fit_v =
    omega (
      arith,
      length-hex_bytes bytes,
      leb-true (length bytes) most (and_parts (nat_le (length bytes) most) (list_all is_byte bytes) fit_v).0,
    )
word-length (or_dash k) None so fit_v = omega arith
word-length (or_dash k) (Some v) so fit_v =
    omega (arith, word-length k v (and_parts (sound k) _ so).0 fit_v)
word-length (commas most k) values so fit_v =
    let f = and_parts (nat_le (length values) most) (list_all (fits_kind k) values) fit_v in
    let s = (and_parts (sound k) _ so).0 in
    omega (
      arith,
      list-length k (longest k) values f.1 (λ v is. word-length k v s is),
      mul-le-mul_right (suc (longest k)) (leb-true (length values) most f.0),
    )
word-length (named texts prefix k) (choice.Told i) so fit_v = omega (arith, place-length texts i)
word-length (named texts prefix k) (choice.Other v) so fit_v =
    omega (arith, length-append prefix (spell k v), word-length k v (and_parts (sound k) _ so).0 fit_v)
word-length (joined k b l) (v, w) so fit_v =
    let t = and_parts (sound k) (sound l && avoids b k) so in
    let f = and_parts (fits_kind k v) (fits_kind l w) fit_v in
    omega (
      arith,
      length-append (spell k v) (b ∷ spell l w),
      word-length k v t.0 f.0,
      word-length l w (and_parts (sound l) (avoids b k) t.1).0 f.1,
    )
word-length (free most) text so fit_v =
    leb-true (length text) most (and_parts (nat_le (length text) most) (not (has_byte 10 text)) fit_v).0

pub text-length : (form : LineForm) (values : Values form) → well form ≡ true → fit form values ≡ true
    → length (spelled form values) ≤ longest_line form
text-length [] values is fit_all = omega arith
text-length (f ∷ form) (v, vs) is fit_all =
    let t = and_parts (sound f.kind)
    (avoids 10 f.kind && (not (has_byte 10 f.label) && (goes_on f.kind form && well form)))
    is in
    let u = and_parts (avoids 10 f.kind) (not (has_byte 10 f.label) && (goes_on f.kind form && well form)) t.1 in
    let w = and_parts (not (has_byte 10 f.label)) (goes_on f.kind form && well form) u.1 in
    let x = and_parts (goes_on f.kind form) (well form) w.1 in
    let g = and_parts (fits_kind f.kind v) (fit form vs) fit_all in
    omega (
      arith,
      length-append f.label (spell f.kind v ++ spelled form vs),
      length-append (spell f.kind v) (spelled form vs),
      word-length f.kind v t.0 g.0,
      text-length form vs x.1 g.1,
    )
