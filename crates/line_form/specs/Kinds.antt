-- What a word of a line may be, as data: the values of a kind, the text of a value, the value of a text, and its
-- length.
use Rattle.std.specs.Prelude.{ℕ, zero, suc, ◌+◌, ◌-◌, ◌*◌, ◌^◌, ◌==◌, nat_le, nat_lt, ℤ, pos, neg_ℤ}
use Rattle.std.specs.Prelude.{Bool, true, ◌&&◌, ◌||◌, not, List, [], ◌∷◌, ◌++◌, map}
use Rattle.std.specs.Prelude.{length, get_or, take, drop, fold, slice_index, ◌%◌}
use Rattle.std.specs.Prelude.{Option, Some, None, is_none, codes, decimal, unsigned_abs, max, if◌then◌else◌}
use Rattle.std.specs.Fmt.{signed_decimal}
use Rattle.std.specs.List.{list_all, list_any}
use Rattle.std.specs.Str.{bytes_eq}
use Rattle.ttp_base.specs.Text.{hex, hex_bytes}
use Rattle.line_form.specs.declared.named.Named.{Named}
use Rattle.line_form.specs.declared.named.Named.TheVariants as choice

-- the kinds of words
pub data Kind : Type 0 where
  number : ℕ → Kind
  signed : ℕ → Kind
  hexed : ℕ → Kind
  hexed_or : ℕ → ℕ → Kind
  one_of : List (List ℕ) → Kind
  payload : ℕ → Kind
  or_dash : Kind → Kind
  commas : ℕ → Kind → Kind
  named : List (List ℕ) → List ℕ → Kind → Kind
  joined : Kind → ℕ → Kind → Kind
  free : ℕ → Kind

-- the values of a kind
abbrev pub Value : Kind → Type 0
Value (number limit) = ℕ
Value (signed limit) = ℤ
Value (hexed digits) = ℕ
Value (hexed_or few many) = Bool × ℕ
Value (one_of texts) = ℕ
Value (payload most) = List ℕ
Value (or_dash k) = Option (Value k)
Value (commas most k) = List (Value k)
Value (named texts prefix k) = Named (Value k)
Value (joined k b l) = Value k × Value l
Value (free most) = List ℕ

-- Texts.

-- a byte and each word behind it
abbrev pub each_behind : ℕ → List (List ℕ) → List ℕ
each_behind b [] = []
each_behind b (word ∷ words) = b ∷ word ++ each_behind b words

-- words with a byte between them
abbrev pub joined_by : ℕ → List (List ℕ) → List ℕ
joined_by b [] = []
joined_by b (word ∷ words) = word ++ each_behind b words

-- a comma before each but the first
abbrev pub comma_before : ℕ → List ℕ
comma_before zero = []
comma_before (suc place) = codes ","

-- words with commas between them, or a dash where there are none
abbrev pub listed_words : List (List ℕ) → List ℕ
listed_words [] = codes "-"
listed_words (word ∷ words) = joined_by 44 (word ∷ words)

-- how many hexadecimal digits: one count or another
abbrev pub count_of_digits : ℕ → ℕ → Bool → ℕ
count_of_digits few many wide = if wide then many else few

-- the text of a value
abbrev pub spell : (k : Kind) → Value k → List ℕ
spell (number limit) n = decimal n
spell (signed limit) z = signed_decimal z
spell (hexed digits) v = hex digits v
spell (hexed_or few many) (wide, v) = hex (count_of_digits few many wide) v
spell (one_of texts) i = get_or texts i []
spell (payload most) bytes = hex_bytes bytes
spell (or_dash k) None = codes "-"
spell (or_dash k) (Some v) = spell k v
spell (commas most k) values = listed_words (map (spell k) values)
spell (named texts prefix k) (choice.Told i) = get_or texts i []
spell (named texts prefix k) (choice.Other v) = prefix ++ spell k v
spell (joined k b l) (v, w) = spell k v ++ b ∷ spell l w
spell (free most) text = text

-- Values of texts. A text is read and then held against what its value spells.

infixl 10 ◌>>=◌
-- a value that is read is read on; where nothing was read, nothing is
abbrev pub ◌>>=◌ : {A B : Type 0} → Option A → (A → Option B) → Option B
None >>= f = None
(Some x) >>= f = f x

-- a value, if a test says so
abbrev pub given : {A : Type 0} → Bool → A → Option A
given b x = if b then Some x else None

-- what follows a label at the front
abbrev pub behind_prefix : List ℕ → List ℕ → Option (List ℕ)
behind_prefix label bytes =
    if bytes_eq (take (length label) bytes) label then Some (drop (length label) bytes) else None

-- what stands before the first of these bytes, and from there on
abbrev pub front : ℕ → List ℕ → List ℕ
front b [] = []
front b (c ∷ bytes) = if c == b then [] else c ∷ front b bytes

abbrev pub back : ℕ → List ℕ → List ℕ
back b [] = []
back b (c ∷ bytes) = if c == b then c ∷ bytes else back b bytes

-- the words that a byte parts
abbrev pub onto_first : ℕ → List (List ℕ) → List (List ℕ)
onto_first c [] = (c ∷ []) ∷ []
onto_first c (word ∷ words) = (c ∷ word) ∷ words

abbrev pub parted : ℕ → List ℕ → List (List ℕ)
parted b [] = [] ∷ []
parted b (c ∷ bytes) = if c == b then [] ∷ parted b bytes else onto_first c (parted b bytes)

-- a word of two digits or more begins with 0
abbrev pub has_leading_zero : List ℕ → Bool
has_leading_zero word = (slice_index word 0 == 48) && nat_lt 1 (length word)

-- a byte is a decimal digit
abbrev pub is_digit : ℕ → Bool
is_digit c = nat_le 48 c && nat_le c 57

-- a number with one decimal digit more
abbrev pub append_digit : ℕ → ℕ → ℕ
append_digit v c = 10 * v + (c - 48)

-- the number that a word writes, where it has digits alone
abbrev pub number_named : List ℕ → Option ℕ
number_named word = if list_all is_digit word && not (length word == 0) then Some (fold append_digit 0 word) else None

-- decimal digits, at most so many, without leading zeros
unfoldable pub numeral_in : ℕ → List ℕ → Option ℕ
numeral_in most word = if nat_le (length word) most && not (has_leading_zero word) then number_named word else None

-- a number below a limit
unfoldable pub numeral : ℕ → List ℕ → Option ℕ
numeral limit word = numeral_in 18 word >>= λ n. given (nat_lt n limit) n

-- a number with a `-` before a negative one
unfoldable pub signed_numeral : ℕ → List ℕ → Option ℤ
signed_numeral limit word =
    if slice_index word 0 == 45
    then (numeral limit (drop 1 word) >>= λ n. if n == 0 then None else Some (neg_ℤ (pos n)))
    else (numeral limit word >>= λ n. Some (pos n))

-- a byte is a hexadecimal digit, in lower case, and its value
abbrev pub is_hex : ℕ → Bool
is_hex c = (nat_le 48 c && nat_le c 57) || (nat_le 97 c && nat_le c 102)

abbrev pub hex_value : ℕ → ℕ
hex_value c = if nat_le c 57 then c - 48 else c - 87

abbrev pub append_hex : ℕ → ℕ → ℕ
append_hex v c = 16 * v + hex_value c

-- the number of exactly so many hexadecimal digits
unfoldable pub hex_number : ℕ → List ℕ → Option ℕ
hex_number digits word =
    if (length word == digits) && list_all is_hex word then Some (fold append_hex 0 word) else None

-- the number of as many digits as one count or another, and which of them
abbrev pub wide_number : ℕ → ℕ → Bool → List ℕ → Option (Bool × ℕ)
wide_number few many wide word = hex_number (count_of_digits few many wide) word >>= λ v. Some (wide, v)

-- the bytes of two digits each
abbrev pub byte_pairs : List ℕ → List ℕ
byte_pairs [] = []
byte_pairs (high ∷ []) = []
byte_pairs (high ∷ low ∷ word) = (16 * hex_value high + hex_value low) ∷ byte_pairs word

abbrev pub is_byte : ℕ → Bool
is_byte b = nat_lt b 256

-- an even number of digits, two for each byte, of at most so many
abbrev pub is_even : List ℕ → Bool
is_even word = length word % 2 == 0

unfoldable pub hex_payload : ℕ → List ℕ → Option (List ℕ)
hex_payload most word =
    if is_even word && (nat_le (length word) (2 * most) && list_all is_hex word) then Some (byte_pairs word) else None

-- the place of a text
abbrev pub place_among : List (List ℕ) → List ℕ → Option ℕ
place_among [] word = None
place_among (text ∷ texts) word = if bytes_eq text word then Some 0 else (place_among texts word >>= λ i. Some (suc i))

-- one of some texts, or else what is read otherwise
abbrev pub or_other : {A : Type 0} → Option ℕ → Option A → Option (Named A)
or_other (Some i) r = Some (choice.Told i)
or_other None r = r >>= λ v. Some (choice.Other v)

-- each word read
abbrev pub each : {A : Type 0} → (List ℕ → Option A) → List (List ℕ) → Option (List A)
each f [] = Some []
each f (word ∷ words) = f word >>= λ v. each f words >>= λ vs. Some (v ∷ vs)

-- at most so many
abbrev pub at_most : {A : Type 0} → ℕ → List A → Option (List A)
at_most most values = given (nat_le (length values) most) values

-- whether a text has a byte
abbrev pub has_byte : ℕ → List ℕ → Bool
has_byte b text = list_any (λ c. c == b) text

-- the value of a text
abbrev pub read : (k : Kind) → List ℕ → Option (Value k)
read (number limit) word = numeral limit word
read (signed limit) word = signed_numeral limit word
read (hexed digits) word = hex_number digits word
read (hexed_or few many) word = wide_number few many (length word == many) word
read (one_of texts) word = place_among texts word
read (payload most) word = hex_payload most word
read (or_dash k) word = if bytes_eq (codes "-") word then Some None else (read k word >>= λ v. Some (Some v))
read (commas most k) word =
    if bytes_eq (codes "-") word then Some [] else (each (read k) (parted 44 word) >>= λ vs. at_most most vs)
read (named texts prefix k) word = or_other (place_among texts word) (behind_prefix prefix word >>= λ rest. read k rest)
read (joined k b l) word =
    read k (front b word) >>= λ v. behind_prefix (b ∷ []) (back b word) >>= λ rest. read l rest >>= λ w. Some (v, w)
read (free most) word = given (nat_le (length word) most && not (has_byte 10 word)) word

-- What fits, and which descriptions are sound.

abbrev pub fits_kind : (k : Kind) → Value k → Bool
fits_kind (number limit) n = nat_lt n limit
fits_kind (signed limit) z = nat_lt (unsigned_abs z) limit
fits_kind (hexed digits) v = nat_lt v (16 ^ digits)
fits_kind (hexed_or few many) (wide, v) = nat_lt v (16 ^ count_of_digits few many wide)
fits_kind (one_of texts) i = nat_lt i (length texts)
fits_kind (payload most) bytes = nat_le (length bytes) most && list_all is_byte bytes
fits_kind (or_dash k) None = true
fits_kind (or_dash k) (Some v) = fits_kind k v
fits_kind (commas most k) values = nat_le (length values) most && list_all (fits_kind k) values
fits_kind (named texts prefix k) (choice.Told i) = nat_lt i (length texts)
fits_kind (named texts prefix k) (choice.Other v) = fits_kind k v
fits_kind (joined k b l) (v, w) = fits_kind k v && fits_kind l w
fits_kind (free most) text = nat_le (length text) most && not (has_byte 10 text)

-- the words of a kind never have this byte
abbrev pub is_no_digit : ℕ → Bool
is_no_digit b = nat_lt b 48 || nat_lt 57 b

abbrev pub is_no_hex : ℕ → Bool
is_no_hex b = nat_lt b 48 || (nat_lt 57 b && nat_lt b 97)

abbrev pub avoids : ℕ → Kind → Bool
avoids b (number limit) = is_no_digit b
avoids b (signed limit) = is_no_digit b && not (45 == b)
avoids b (hexed digits) = is_no_hex b
avoids b (hexed_or few many) = is_no_hex b
avoids b (one_of texts) = list_all (λ text. not (has_byte b text)) texts
avoids b (payload most) = is_no_hex b
avoids b (or_dash k) = not (45 == b) && avoids b k
avoids b (commas most k) = not (45 == b) && (not (44 == b) && avoids b k)
avoids b (named texts prefix k) =
    list_all (λ text. not (has_byte b text)) texts && (not (has_byte b prefix) && avoids b k)
avoids b (joined k c l) = avoids b k && (not (c == b) && avoids b l)
avoids b (free most) = b == 10

-- no text stands twice
abbrev pub distinct_texts : List (List ℕ) → Bool
distinct_texts [] = true
distinct_texts (text ∷ texts) = is_none (place_among texts text) && distinct_texts texts

-- numbers have at most 18 digits, and no text is a value of two ways
abbrev pub sound : Kind → Bool
sound (number limit) = nat_le limit (10 ^ 18)
sound (signed limit) = nat_le limit (10 ^ 18)
sound (hexed digits) = nat_le digits 16
sound (hexed_or few many) = not (few == many) && (nat_le few 16 && nat_le many 16)
sound (one_of texts) = distinct_texts texts
sound (payload most) = true
sound (or_dash k) = sound k && is_none (read k (codes "-"))
sound (commas most k) = sound k && (avoids 44 k && is_none (read k (codes "-")))
sound (named texts prefix k) =
    sound k && (distinct_texts texts
    && list_all (λ text. is_none (behind_prefix prefix text >>= λ rest. read k rest)) texts)
sound (joined k b l) = sound k && (sound l && avoids b k)
sound (free most) = true

-- How long a word is at most.

-- the digits of the numbers below a limit: the first count that serves
abbrev pub digits_below : ℕ → ℕ → ℕ → ℕ
digits_below zero d limit = 20
digits_below (suc more) d limit = if nat_le limit (10 ^ d) then d else digits_below more (suc d) limit

abbrev pub longest_number : ℕ → ℕ
longest_number limit = digits_below 18 1 limit

abbrev pub longest_of : List (List ℕ) → ℕ
longest_of [] = 0
longest_of (text ∷ texts) = max (length text) (longest_of texts)

abbrev pub longest : Kind → ℕ
longest (number limit) = longest_number limit
longest (signed limit) = suc (longest_number limit)
longest (hexed digits) = digits
longest (hexed_or few many) = max few many
longest (one_of texts) = longest_of texts
longest (payload most) = 2 * most
longest (or_dash k) = max 1 (longest k)
longest (commas most k) = max 1 (most * suc (longest k))
longest (named texts prefix k) = max (longest_of texts) (length prefix + longest k)
longest (joined k b l) = longest k + suc (longest l)
longest (free most) = most
