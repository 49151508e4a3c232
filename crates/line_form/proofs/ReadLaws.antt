-- What is read of a word is what the word spells, and it fits, over all kinds.
use Rattle.std.proofs.Common.{◌≡◌, ℕ, ◌^◌, Bool, true, false, cond, ◌&&◌, not}
use Rattle.std.proofs.Common.{List, [], ◌∷◌, ◌++◌, length, map, Option, Some, None, refl, sym, ap, subst, ◌∙◌, arith}
use Rattle.std.proofs.Common.{codes, bytes_eq, unsigned_abs}
use Rattle.std.specs.Prelude.{nat_le, ◌==◌, IfSome}
use Rattle.std.specs.List.{list_all}
use Rattle.line_form.proofs.NumberWords.{same_text}
use Rattle.line_form.specs.declared.named.Named.{Named}
use Rattle.line_form.specs.declared.named.Named.TheVariants as choice
use Rattle.line_form.specs.Kinds.{Kind, number, signed, hexed, hexed_or, one_of}
use Rattle.line_form.specs.Kinds.{payload, or_dash, commas, named, joined, free}
use Rattle.line_form.specs.Kinds.{Value, count_of_digits, hex_number, spell, read, fits_kind}
use Rattle.line_form.specs.Kinds.{has_byte, behind_prefix, front, back, parted, joined_by}
use Rattle.line_form.specs.Kinds.{listed_words, each, at_most, place_among, or_other, is_byte, ◌>>=◌}
use Rattle.line_form.proofs.Tests.{both_true, some_same, was_given, bound, is_le, is_lt, behind_prefix-takes}
use Rattle.line_form.proofs.Numbers.{numeral-takes, signed-takes}
use Rattle.line_form.proofs.Hexes.{hex-takes, payload-takes}
use Rattle.line_form.proofs.PlaceLaws.{place-takes}
use Rattle.line_form.proofs.Cuts.{front-back}
use Rattle.line_form.proofs.Bytes.{parted-first, joined_by-parted}

-- a word spells a value that fits
pub record Spells (k : Kind) (word : List ℕ) (v : Value k) : Type 0 where
  pub text : word ≡ spell k v
  pub fit : fits_kind k v ≡ true

-- Lists.

pub record SpellAll (k : Kind) (words : List (List ℕ)) (values : List (Value k)) : Type 0 where
  pub texts : words ≡ map (spell k) values
  pub fit : list_all (fits_kind k) values ≡ true

each-takes : (k : Kind) (words : List (List ℕ)) (values : List (Value k)) → each (read k) words ≡ Some values
    → ((word : List ℕ) (v : Value k) → read k word ≡ Some v → Spells k word v) → SpellAll k words values
each-takes k [] values e takes =
    subst (λ vs. SpellAll k [] vs) (some_same [] values e) (record { texts = refl; fit = refl })
each-takes k (word ∷ words) values e takes =
    let a = bound (read k word) (λ v. each (read k) words >>= λ vs. Some (v ∷ vs)) values e in
    let b = bound (each (read k) words) (λ vs. Some (a.value ∷ vs)) values a.gives in
    let one = takes word a.value a.read in
    let more = each-takes k words b.value b.read takes in
    subst (λ vs. SpellAll k (word ∷ words) vs) (some_same (a.value ∷ b.value) values b.gives) (record {
      texts = ap (λ (w : List ℕ). w ∷ words) one.text ∙ ap (λ (ws : List (List ℕ)). spell k a.value ∷ ws) more.texts;
      fit = both_true (fits_kind k a.value) (list_all (fits_kind k) b.value) one.fit more.fit;
    })

-- words with commas between them are what they were parted from
listed_words-parted : (word : List ℕ) → listed_words (parted 44 word) ≡ word
listed_words-parted word =
    let p = parted-first 44 word in
    ap listed_words p.1.1 ∙ ap (joined_by 44) (sym p.1.1) ∙ joined_by-parted 44 word

list-takes : (most : ℕ) (k : Kind) (word : List ℕ) (is : Bool) (values : List (Value k))
    → bytes_eq (codes "-") word ≡ is
    → cond is (Some []) (each (read k) (parted 44 word) >>= λ vs. at_most most vs) ≡ Some values
    → ((text : List ℕ) (v : Value k) → read k text ≡ Some v → Spells k text v) → Spells (commas most k) word values
list-takes most k word true values same e takes =
    subst (λ vs. Spells (commas most k) word vs) (some_same [] values e)
    (record {
      text = sym (same_text (codes "-") word same);
      fit = both_true (nat_le 0 most) true (is_le 0 most (omega arith)) refl;
    })
list-takes most k word false values same e takes =
    let b = bound (each (read k) (parted 44 word)) (λ vs. at_most most vs) values e in
    let few = was_given (nat_le (length b.value) most) b.value values b.gives in
    let all = each-takes k (parted 44 word) b.value b.read takes in
    subst (λ vs. Spells (commas most k) word vs) few.1 (record {
      text = sym (listed_words-parted word) ∙ ap listed_words all.texts;
      fit = both_true (nat_le (length b.value) most) (list_all (fits_kind k) b.value) few.0 all.fit;
    })

dash-takes : (k : Kind) (word : List ℕ) (is : Bool) (value : Option (Value k)) → bytes_eq (codes "-") word ≡ is
    → cond is (Some None) (read k word >>= λ v. Some (Some v)) ≡ Some value
    → ((v : Value k) → read k word ≡ Some v → Spells k word v) → Spells (or_dash k) word value
dash-takes k word true value same e takes =
    subst (λ (v : Option (Value k)). Spells (or_dash k) word v) (some_same None value e)
    (record { text = sym (same_text (codes "-") word same); fit = refl })
dash-takes k word false value same e takes =
    let b = bound (read k word) (λ v. Some (Some v)) value e in
    let t = takes b.value b.read in
    subst (λ (v : Option (Value k)). Spells (or_dash k) word v) (some_same (Some b.value) value b.gives)
    (record { text = t.text; fit = t.fit })

named-takes : (texts : List (List ℕ)) (prefix : List ℕ) (k : Kind) (word : List ℕ) (p : Option ℕ)
    → (value : Named (Value k)) → place_among texts word ≡ p
    → or_other p (behind_prefix prefix word >>= λ rest. read k rest) ≡ Some value
    → ((text : List ℕ) (v : Value k) → read k text ≡ Some v → Spells k text v)
    → Spells (named texts prefix k) word value
named-takes texts prefix k word (Some i) value place e takes =
    let at = place-takes texts word i place in
    subst (λ (v : Named (Value k)). Spells (named texts prefix k) word v) (some_same (choice.Told i) value e)
    (record { text = at.0; fit = is_lt i (length texts) at.1 })
named-takes texts prefix k word None value place e takes =
    let a = bound (behind_prefix prefix word >>= λ rest. read k rest) (λ v. Some (choice.Other v)) value e in
    let b = bound (behind_prefix prefix word) (λ rest. read k rest) a.value a.read in
    let t = takes b.value a.value b.gives in
    subst (λ (v : Named (Value k)). Spells (named texts prefix k) word v)
    (some_same (choice.Other a.value) value a.gives)
    (record {
      text = behind_prefix-takes prefix word b.value b.read ∙ ap (λ (r : List ℕ). prefix ++ r) t.text;
      fit = t.fit;
    })

pub takes : (k : Kind) (word : List ℕ) (v : Value k) → read k word ≡ Some v → Spells k word v
takes (number limit) word n e =
    let t = numeral-takes limit word n e in record { text = t.text; fit = is_lt n limit t.small }
takes (signed limit) word z e =
    let t = signed-takes limit word z e in record { text = t.0; fit = is_lt (unsigned_abs z) limit t.1 }
takes (hexed digits) word n e =
    let t = hex-takes digits word n e in record { text = t.0; fit = is_lt n (16 ^ digits) t.1 }
takes (hexed_or few many) word value e =
    let wide = length word == many in
    let b = bound (hex_number (count_of_digits few many wide) word) (λ v. Some (wide, v)) value e in
    let t = hex-takes (count_of_digits few many wide) word b.value b.read in
    subst (λ x. Spells (hexed_or few many) word x) (some_same (wide, b.value) value b.gives)
    (record { text = t.0; fit = is_lt b.value (16 ^ count_of_digits few many wide) t.1 })
takes (one_of texts) word i e =
    let t = place-takes texts word i e in record { text = t.0; fit = is_lt i (length texts) t.1 }
takes (payload most) word bytes e =
    let t = payload-takes most word bytes e in
    record {
      text = t.0;
      fit = both_true (nat_le (length bytes) most) (list_all is_byte bytes) (is_le (length bytes) most t.2) t.1;
    }
takes (or_dash k) word value e =
    dash-takes k word (bytes_eq (codes "-") word) value refl e (λ v r. takes k word v r)
takes (commas most k) word values e =
    list-takes most k word (bytes_eq (codes "-") word) values refl e (λ w v r. takes k w v r)
takes (named texts prefix k) word value e =
    named-takes texts prefix k word (place_among texts word) value refl e (λ w v r. takes k w v r)
takes (joined k b l) word value e =
    let p = bound (read k (front b word))
    (λ v. behind_prefix (b ∷ []) (back b word) >>= λ rest. read l rest >>= λ w. Some (v, w)) value e in
    let q = bound (behind_prefix (b ∷ []) (back b word))
    (λ rest. read l rest >>= λ w. Some (p.value, w)) value p.gives in
    let r = bound (read l q.value) (λ w. Some (p.value, w)) value q.gives in
    let one = takes k (front b word) p.value p.read in
    let other = takes l q.value r.value r.read in
    subst (λ (v : Value k × Value l). Spells (joined k b l) word v)
    (some_same (p.value, r.value) value r.gives) (record {
      text = sym (front-back b word) ∙ ap (λ (t : List ℕ). t ++ back b word) one.text
          ∙ ap (λ (t : List ℕ). spell k p.value ++ t) (behind_prefix-takes (b ∷ []) (back b word) q.value q.read)
          ∙ ap (λ (t : List ℕ). spell k p.value ++ b ∷ t) other.text;
      fit = both_true (fits_kind k p.value) (fits_kind l r.value) one.fit other.fit;
    })
takes (free most) word text e =
    let t = was_given (nat_le (length word) most && not (has_byte 10 word)) word text e in
    subst (λ (w : List ℕ). Spells (free most) word w) t.1 (record { text = refl; fit = t.0 })

same_by : (k : Kind) (word : List ℕ) (r : Option (Value k)) → ((v : Value k) → r ≡ Some v → Spells k word v)
    → IfSome r (λ v. (fits_kind k v ≡ true) × (word ≡ spell k v))
same_by k word None spells = tt
same_by k word (Some v) spells = let s = spells v refl in (s.fit, s.text)

pub word_same : (k : Kind) (word : List ℕ) → IfSome (read k word) (λ v. (fits_kind k v ≡ true) × (word ≡ spell k v))
word_same k word = same_by k word (read k word) (takes k word)
