-- A text among some is found at its place, and stands there.
use Rattle.std.proofs.Common.{◌≡◌, ℕ, zero, suc, ◌<◌, Bool, true, false, cond, not, List, [], ◌∷◌, length, get_or, ◌≤◌}
use Rattle.std.proofs.Common.{Option, Some, None, refl, sym, ap, ◌∙◌, arith, bytes_eq}
use Rattle.std.specs.Prelude.{is_none}
use Rattle.std.specs.List.{list_all}
use Rattle.std.proofs.lemmas.Bool.{and_parts}
use Rattle.line_form.proofs.NumberWords.{bytes_eq-same}
use Rattle.line_form.proofs.NumberWords.{same_text}
use Rattle.line_form.specs.Kinds.{place_among, ◌>>=◌, distinct_texts, has_byte, longest_of}
use Rattle.line_form.proofs.Tests.{is_not, not_some}

-- a text that stands at a place is found
pub found : (texts : List (List ℕ)) (i : ℕ) → i < length texts → (j : ℕ)
    × (place_among texts (get_or texts i []) ≡ Some j)
found [] i less = absurd (omega (arith, less))
found (text ∷ texts) zero less = (0, rw (bytes_eq-same text) refl)
found (text ∷ texts) (suc i) less =
    let more = found texts i (omega (arith, less)) in
    go (bytes_eq text (get_or texts i [])) (place_among texts (get_or texts i [])) more.0 more.1
  where
    go : (is : Bool) (p : Option ℕ) (j : ℕ) → p ≡ Some j
        → (k : ℕ) × (cond is (Some 0) (p >>= λ n. Some (suc n)) ≡ Some k)
    go true p j e = (0, refl)
    go false p j e = (suc j, ap (λ (q : Option ℕ). q >>= λ n. Some (suc n)) e)

pub place-takes : (texts : List (List ℕ)) (word : List ℕ) (i : ℕ) → place_among texts word ≡ Some i
    → (word ≡ get_or texts i []) × (i < length texts)
place-takes [] word i e = cc
place-takes (text ∷ texts) word i e =
    go (bytes_eq text word) refl (place_among texts word) i e (place-takes texts word)
  where
    go : (is : Bool) → bytes_eq text word ≡ is → (p : Option ℕ) (i : ℕ)
        → cond is (Some 0) (p >>= λ n. Some (suc n)) ≡ Some i
        → ((j : ℕ) → p ≡ Some j → (word ≡ get_or texts j []) × (j < length texts))
        → (word ≡ get_or (text ∷ texts) i []) × (i < length (text ∷ texts))
    go true same p zero e more = (sym (same_text text word same), omega arith)
    go true same p (suc i) e more = cc
    go false same None i e more = cc
    go false same (Some j) zero e more = cc
    go false same (Some j) (suc i) e more =
        let m = more i (cc) in (m.0, omega (arith, m.1))

pub place-again : (texts : List (List ℕ)) (i : ℕ) → distinct_texts texts ≡ true → i < length texts
    → place_among texts (get_or texts i []) ≡ Some i
place-again [] i once less = absurd (omega (arith, less))
place-again (text ∷ texts) zero once less = rw (bytes_eq-same text) refl
place-again (text ∷ texts) (suc i) once less =
    let t = and_parts (is_none (place_among texts text)) (distinct_texts texts) once in
    let more = place-again texts i t.1 (omega (arith, less)) in
    go (bytes_eq text (get_or texts i [])) refl t.0 more
  where
    go : (is : Bool) → bytes_eq text (get_or texts i []) ≡ is → is_none (place_among texts text) ≡ true
        → place_among texts (get_or texts i []) ≡ Some i
        → cond is (Some 0) (place_among texts (get_or texts i []) >>= λ n. Some (suc n)) ≡ Some (suc i)
    go true same none more =
        absurd (not_some (place_among texts text) i none
        (ap (place_among texts) (same_text text (get_or texts i []) same) ∙ more))
    go false same none more = ap (λ (q : Option ℕ). q >>= λ n. Some (suc n)) more

-- what holds of all texts
pub at-place : (p : List ℕ → Bool) (texts : List (List ℕ)) (i : ℕ) → list_all p texts ≡ true → i < length texts
    → p (get_or texts i []) ≡ true
at-place p [] i all less = absurd (omega (arith, less))
at-place p (text ∷ texts) zero all less = (and_parts (p text) (list_all p texts) all).0
at-place p (text ∷ texts) (suc i) all less =
    at-place p texts i (and_parts (p text) (list_all p texts) all).1 (omega (arith, less))

pub place-has : (b : ℕ) (texts : List (List ℕ)) (i : ℕ) → list_all (λ text. not (has_byte b text)) texts ≡ true
    → i < length texts → has_byte b (get_or texts i []) ≡ false
place-has b texts i all less =
    is_not (has_byte b (get_or texts i [])) (at-place (λ text. not (has_byte b text)) texts i all less)

pub place-length : (texts : List (List ℕ)) (i : ℕ) → length (get_or texts i []) ≤ longest_of texts
place-length [] i = omega arith
place-length (text ∷ texts) zero = omega arith
place-length (text ∷ texts) (suc i) = omega (arith, place-length texts i)
