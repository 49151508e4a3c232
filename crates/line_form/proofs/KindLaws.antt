-- The laws of words, over all kinds: what is spelled is read as its value, and what is read is spelled so.
use Rattle.std.proofs.Common.{◌≡◌, ℕ, ◌^◌, ◌<◌, Bool, true, false, ◌&&◌, not}
use Rattle.std.proofs.Common.{List, [], ◌∷◌, ◌++◌, length, map, get_or, Option, Some, None, refl, sym, ap, ◌∙◌}
use Rattle.std.proofs.Common.{codes, bytes_eq, unsigned_abs}
use Rattle.std.specs.Prelude.{◌==◌, nat_le, is_none}
use Rattle.std.specs.List.{list_all}
use Rattle.std.proofs.lemmas.Bool.{and_parts, leb-true, ltb-true, eqb-true, false_from_ne_true}
use Rattle.line_form.proofs.NumberWords.{same_text}
use Rattle.line_form.specs.declared.named.Named.TheVariants as choice
use Rattle.line_form.specs.Kinds.{Kind, number, signed, hexed, hexed_or, one_of}
use Rattle.line_form.specs.Kinds.{payload, or_dash, commas, named, joined, free}
use Rattle.line_form.specs.Kinds.{Value, count_of_digits, wide_number, spell, read, fits_kind}
use Rattle.line_form.specs.Kinds.{sound, avoids, has_byte, behind_prefix, parted, joined_by}
use Rattle.line_form.specs.Kinds.{each_behind, listed_words, each, place_among}
use Rattle.line_form.specs.Kinds.{or_other, distinct_texts, is_byte, ◌>>=◌}
use Rattle.line_form.proofs.Tests.{both_true, gives, not_some, is_not}
use Rattle.line_form.proofs.Tests.{behind_prefix-again}
use Rattle.line_form.proofs.Numbers.{numeral-again, signed-again}
use Rattle.line_form.proofs.Hexes.{as_long, hex-again, payload-again}
use Rattle.ttp_base.specs.Text.{hex}
use Rattle.ttp_base.proofs.Room.{length-hex}
use Rattle.line_form.proofs.PlaceLaws.{place-again, place-takes, at-place, place-has}
use Rattle.line_form.proofs.Bytes.{has-append, has-cons, has-decimal, has-signed, has-hex, has-hex_bytes, front-again}
use Rattle.line_form.proofs.Bytes.{back-again, parted-again}

-- Bytes that no word of a kind has.

each-lacks : (b : ℕ) (words : List (List ℕ)) → (44 == b) ≡ false → list_all (λ w. not (has_byte b w)) words ≡ true
    → has_byte b (each_behind 44 words) ≡ false
each-lacks b [] comma lacks = refl
each-lacks b (word ∷ words) comma lacks =
    let t = and_parts (not (has_byte b word)) (list_all (λ w. not (has_byte b w)) words) lacks in
    has-cons b 44 (word ++ each_behind 44 words) comma
    (has-append b word (each_behind 44 words) (is_not (has_byte b word) t.0) (each-lacks b words comma t.1))

all-lack : (b : ℕ) (k : Kind) (values : List (Value k)) → list_all (fits_kind k) values ≡ true
    → ((v : Value k) → fits_kind k v ≡ true → has_byte b (spell k v) ≡ false)
    → list_all (λ w. not (has_byte b w)) (map (spell k) values) ≡ true
all-lack b k [] fit lacks = refl
all-lack b k (v ∷ values) fit lacks =
    let t = and_parts (fits_kind k v) (list_all (fits_kind k) values) fit in
    both_true (not (has_byte b (spell k v))) (list_all (λ w. not (has_byte b w)) (map (spell k) values))
    (rw (lacks v t.0) refl) (all-lack b k values t.1 lacks)

list-lacks : (b : ℕ) (words : List (List ℕ)) → (45 == b) ≡ false → (44 == b) ≡ false
    → list_all (λ w. not (has_byte b w)) words ≡ true → has_byte b (listed_words words) ≡ false
list-lacks b [] dash comma lacks = rw dash refl
list-lacks b (word ∷ words) dash comma lacks =
    let t = and_parts (not (has_byte b word)) (list_all (λ w. not (has_byte b w)) words) lacks in
    has-append b word (each_behind 44 words) (is_not (has_byte b word) t.0) (each-lacks b words comma t.1)

pub lacks : (b : ℕ) (k : Kind) (v : Value k) → avoids b k ≡ true → fits_kind k v ≡ true → has_byte b (spell k v) ≡ false
lacks b (number limit) n avoid fit = has-decimal b n avoid
lacks b (signed limit) z avoid fit =
    let t = and_parts (_) (not (45 == b)) avoid in has-signed b z t.0 (is_not (45 == b) t.1)
lacks b (hexed digits) n avoid fit = has-hex b digits n avoid
lacks b (hexed_or few many) (wide, n) avoid fit = has-hex b (count_of_digits few many wide) n avoid
lacks b (one_of texts) i avoid fit = place-has b texts i avoid (ltb-true i (length texts) fit)
lacks b (payload most) bytes avoid fit =
    has-hex_bytes b bytes avoid (and_parts (nat_le (length bytes) most) (list_all is_byte bytes) fit).1
lacks b (or_dash k) None avoid fit =
    let t = and_parts (not (45 == b)) (avoids b k) avoid in rw (is_not (45 == b) t.0) refl
lacks b (or_dash k) (Some v) avoid fit = lacks b k v (and_parts (not (45 == b)) (avoids b k) avoid).1 fit
lacks b (commas most k) values avoid fit =
    let t = and_parts (not (45 == b)) (not (44 == b) && avoids b k) avoid in
    let u = and_parts (not (44 == b)) (avoids b k) t.1 in
    let f = and_parts (nat_le (length values) most) (list_all (fits_kind k) values) fit in
    list-lacks b (map (spell k) values) (is_not (45 == b) t.0) (is_not (44 == b) u.0)
    (all-lack b k values f.1 (λ v is. lacks b k v u.1 is))
lacks b (named texts prefix k) (choice.Told i) avoid fit =
    place-has b texts i (and_parts (list_all (λ text. not (has_byte b text)) texts) _ avoid).0
    (ltb-true i (length texts) fit)
lacks b (named texts prefix k) (choice.Other v) avoid fit =
    let t = and_parts (list_all (λ text. not (has_byte b text)) texts) (not (has_byte b prefix) && avoids b k) avoid in
    let u = and_parts (not (has_byte b prefix)) (avoids b k) t.1 in
    has-append b prefix (spell k v) (is_not (has_byte b prefix) u.0) (lacks b k v u.1 fit)
lacks b (joined k c l) (v, w) avoid fit =
    let t = and_parts (avoids b k) (not (c == b) && avoids b l) avoid in
    let u = and_parts (not (c == b)) (avoids b l) t.1 in
    let f = and_parts (fits_kind k v) (fits_kind l w) fit in
    has-append b (spell k v) (c ∷ spell l w) (lacks b k v t.0 f.0)
    (has-cons b c (spell l w) (is_not (c == b) u.0) (lacks b l w u.1 f.1))
lacks b (free most) text avoid fit =
    let is : b ≡ 10 = eqb-true b 10 avoid in
    rw is (is_not (has_byte 10 text) (and_parts (nat_le (length text) most) (not (has_byte 10 text)) fit).1)

-- What is spelled is read.

each-again : (k : Kind) (values : List (Value k)) → list_all (fits_kind k) values ≡ true
    → ((v : Value k) → fits_kind k v ≡ true → read k (spell k v) ≡ Some v)
    → each (read k) (map (spell k) values) ≡ Some values
each-again k [] fit again = refl
each-again k (v ∷ values) fit again =
    let t = and_parts (fits_kind k v) (list_all (fits_kind k) values) fit in
    rw (again v t.0, each-again k values t.1 again) refl

-- a dash that is no value
no_dash : (k : Kind) (text : List ℕ) (v : Value k) → is_none (read k (codes "-")) ≡ true → read k text ≡ Some v
    → bytes_eq (codes "-") text ≡ false
no_dash k text v none e =
    false_from_ne_true (bytes_eq (codes "-") text)
    (λ same. not_some (read k (codes "-")) v none (ap (read k) (same_text (codes "-") text same) ∙ e))

-- nor is a list of values
no_list : (k : Kind) (v : Value k) (words : List (List ℕ)) → is_none (read k (codes "-")) ≡ true
    → read k (spell k v) ≡ Some v → parted 44 (joined_by 44 (spell k v ∷ words)) ≡ spell k v ∷ words
    → bytes_eq (codes "-") (joined_by 44 (spell k v ∷ words)) ≡ false
no_list k v words none e parts =
    false_from_ne_true (bytes_eq (codes "-") (joined_by 44 (spell k v ∷ words)))
    (λ same. let text = same_text (codes "-") (joined_by 44 (spell k v ∷ words)) same in
    let one : codes "-" ∷ [] ≡ spell k v ∷ words = ap (parted 44) text ∙ parts in
    let dash : codes "-" ≡ spell k v = cc in
    not_some (read k (codes "-")) v none (ap (read k) dash ∙ e))

unread : (texts : List (List ℕ)) (prefix : List ℕ) (k : Kind) (v : Value k) (p : Option ℕ)
    → list_all (λ text. is_none (behind_prefix prefix text >>= λ rest. read k rest)) texts ≡ true
    → (behind_prefix prefix (prefix ++ spell k v) >>= λ rest. read k rest) ≡ Some v
    → place_among texts (prefix ++ spell k v) ≡ p → p ≡ None
unread texts prefix k v None apart e is = refl
unread texts prefix k v (Some i) apart e is =
    let at = place-takes texts (prefix ++ spell k v) i is in
    absurd (not_some (behind_prefix prefix (get_or texts i []) >>= λ rest. read k rest) v
    (at-place (λ text. is_none (behind_prefix prefix text >>= λ rest. read k rest)) texts i apart at.1)
    (ap (λ (w : List ℕ). behind_prefix prefix w >>= λ rest. read k rest) (sym at.0) ∙ e))

wide-again : (few many : ℕ) (wide : Bool) (n : ℕ) → not (few == many) ≡ true → n < 16 ^ count_of_digits few many wide
    → (length (hex (count_of_digits few many wide) n) == many) ≡ wide
wide-again few many true n other small = as_long many n
wide-again few many false n other small = ap (λ (m : ℕ). m == many) (length-hex few n) ∙ is_not (few == many) other

pub again : (k : Kind) (v : Value k) → sound k ≡ true → fits_kind k v ≡ true → read k (spell k v) ≡ Some v
again (number limit) n so fit = numeral-again limit n (leb-true limit (10 ^ 18) so) (ltb-true n limit fit)
again (signed limit) z so fit = signed-again limit z (leb-true limit (10 ^ 18) so) (ltb-true (unsigned_abs z) limit fit)
again (hexed digits) n so fit = hex-again digits n (ltb-true n (16 ^ digits) fit)
again (hexed_or few many) (wide, n) so fit =
    let small = ltb-true n (16 ^ count_of_digits few many wide) fit in
    let word = hex (count_of_digits few many wide) n in
    ap (λ (b : Bool). wide_number few many b word)
    (wide-again few many wide n (and_parts (not (few == many)) (nat_le few 16 && nat_le many 16) so).0 small)
    ∙ ap (λ (r : Option ℕ). r >>= λ v. Some (wide, v)) (hex-again (count_of_digits few many wide) n small)
again (one_of texts) i so fit = place-again texts i so (ltb-true i (length texts) fit)
again (payload most) bytes so fit =
    let f = and_parts (nat_le (length bytes) most) (list_all is_byte bytes) fit in
    payload-again most bytes f.1 (leb-true (length bytes) most f.0)
again (or_dash k) None so fit = refl
again (or_dash k) (Some v) so fit =
    let t = and_parts (sound k) (is_none (read k (codes "-"))) so in
    let e = again k v t.0 fit in rw (no_dash k (spell k v) v t.1 e, e) refl
again (commas most k) [] so fit = refl
again (commas most k) (v ∷ values) so fit =
    let t = and_parts (sound k) (avoids 44 k && is_none (read k (codes "-"))) so in
    let u = and_parts (avoids 44 k) (is_none (read k (codes "-"))) t.1 in
    let f = and_parts (nat_le (length (v ∷ values)) most) (list_all (fits_kind k) (v ∷ values)) fit in
    let g = and_parts (fits_kind k v) (list_all (fits_kind k) values) f.1 in
    let parts = parted-again 44 (spell k v) (map (spell k) values)
    (all-lack 44 k (v ∷ values) f.1 (λ w is. lacks 44 k w u.0 is)) in
    rw (
      no_list k v (map (spell k) values) u.1 (again k v t.0 g.0) parts,
      parts,
      each-again k (v ∷ values) f.1 (λ w is. again k w t.0 is),
    ) (gives (nat_le (length (v ∷ values)) most) (v ∷ values) f.0)
again (named texts prefix k) (choice.Told i) so fit =
    let t = and_parts (sound k) (distinct_texts texts && _) so in
    let u = and_parts (distinct_texts texts) _ t.1 in
    ap (λ (p : Option ℕ). or_other p (behind_prefix prefix (get_or texts i []) >>= λ rest. read k rest))
    (place-again texts i u.0 (ltb-true i (length texts) fit))
again (named texts prefix k) (choice.Other v) so fit =
    let t = and_parts (sound k)
    (distinct_texts texts && list_all (λ text. is_none (behind_prefix prefix text >>= λ rest. read k rest)) texts) so in
    let u = and_parts (distinct_texts texts)
    (list_all (λ text. is_none (behind_prefix prefix text >>= λ rest. read k rest)) texts) t.1 in
    let e : (behind_prefix prefix (prefix ++ spell k v) >>= λ rest. read k rest) ≡ Some v =
    ap (λ (r : Option (List ℕ)). r >>= λ rest. read k rest)
    (behind_prefix-again prefix (spell k v)) ∙ again k v t.0 fit in
    let none = unread texts prefix k v (place_among texts (prefix ++ spell k v)) u.1 e refl in
    ap (λ (p : Option ℕ). or_other p (behind_prefix prefix (prefix ++ spell k v) >>= λ rest. read k rest)) none
    ∙ ap (λ (r : Option (Value k)). r >>= λ x. Some (choice.Other x)) e
again (joined k b l) (v, w) so fit =
    let t = and_parts (sound k) (sound l && avoids b k) so in
    let u = and_parts (sound l) (avoids b k) t.1 in
    let f = and_parts (fits_kind k v) (fits_kind l w) fit in
    let lack = lacks b k v u.1 f.0 in
    rw (
      front-again b (spell k v) (spell l w) lack,
      back-again b (spell k v) (spell l w) lack,
      again k v t.0 f.0,
      behind_prefix-again (b ∷ []) (spell l w),
      again l w u.0 f.1,
    ) refl
again (free most) text so fit = gives (nat_le (length text) most && not (has_byte 10 text)) text fit
