-- What no numeral has: a byte before the sign and the digits, as a line feed or a space.
use Rattle.std.proofs.Common.{◌≡◌, ℕ, zero, suc, ◌+◌, ◌/◌, ◌%◌, ◌==◌, ◌<◌, Bool, true, false, cond, nat_lt, ℤ, pos}
use Rattle.std.proofs.Common.{negsuc}
use Rattle.std.proofs.Common.{List, [], ◌∷◌, ◌++◌, refl, ◌∙◌, arith}
use Rattle.std.specs.List.{list_any}
use Rattle.std.specs.Fmt.{digit_glyph, digits_onto, digits, decimal, signed_decimal}
use Rattle.std.proofs.lemmas.List.Folds.{list_any-append}
use Rattle.ttp_base.specs.Text.{hex_digit, hex, byte_hex, hex_bytes}

-- whether a text has a byte
abbrev pub has : ℕ → List ℕ → Bool
has b text = list_any (λ c. c == b) text

-- two texts without it are one
pub has-append : (b : ℕ) (x y : List ℕ) → has b x ≡ false → has b y ≡ false → has b (x ++ y) ≡ false
has-append b x y p q = rw (list_any-append (λ c. c == b) x y, p, q) refl

glyph_differs : (b : ℕ) (small : Bool) (d : ℕ) → b < 45 → cond small (48 + d) (87 + d) == b ≡ false
glyph_differs b true d low = grind arith
glyph_differs b false d low = grind arith

has-digits_onto : (b k n : ℕ) (text : List ℕ) → b < 45 → has b (digits_onto k 10 false n text) ≡ has b text
has-digits_onto b zero n text low = refl
has-digits_onto b (suc k) n text low =
    let more = digit_glyph false (n % 10) ∷ text in
    let here : has b more ≡ has b text = rw (glyph_differs b (nat_lt (n % 10) 10) (n % 10) low) refl in
    let go : (last : Bool) → has b (cond last more (digits_onto k 10 false (n / 10) more)) ≡ has b text =
    elim [ true ↦ here | false ↦ has-digits_onto b k (n / 10) more low ∙ here ] in
    go (n / 10 == 0)

pub has-decimal : (b n : ℕ) → b < 45 → has b (decimal n) ≡ false
unfolding digits
has-decimal b n low = has-digits_onto b 64 n [] low

pub has-signed : (b : ℕ) (z : ℤ) → b < 45 → has b (signed_decimal z) ≡ false
has-signed b (pos n) low = has-decimal b n low
has-signed b (negsuc n) low =
    let sign : (45 == b) ≡ false = grind arith in
    rw (sign, has-decimal b (suc n) low) refl

pub has-hex : (b digits v : ℕ) → b < 45 → has b (hex digits v) ≡ false
has-hex b zero v low = refl
has-hex b (suc digits) v low =
    has-append b (hex digits (v / 16)) (hex_digit (v % 16) ∷ []) (has-hex b digits (v / 16) low)
    (rw (glyph_differs b (nat_lt (v % 16) 10) (v % 16) low) refl)

has-byte_hex : (b byte : ℕ) → b < 45 → has b (byte_hex byte) ≡ false
has-byte_hex b byte low =
    let high = glyph_differs b (nat_lt (byte / 16) 10) (byte / 16) low in
    rw (high, glyph_differs b (nat_lt (byte % 16) 10) (byte % 16) low) refl

pub has-hex_bytes : (b : ℕ) (bytes : List ℕ) → b < 45 → has b (hex_bytes bytes) ≡ false
has-hex_bytes b [] low = refl
has-hex_bytes b (byte ∷ bytes) low =
    has-append b (byte_hex byte) (hex_bytes bytes) (has-byte_hex b byte low) (has-hex_bytes b bytes low)
