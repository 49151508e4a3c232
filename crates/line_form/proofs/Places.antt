-- The place of a text among some, looked for from the first one on.
use Rattle.std.proofs.Common.{◌≡◌, ℕ, zero, suc, ◌+◌, ◌<◌, ◌≤◌, Bool, true, false}
use Rattle.std.proofs.Common.{cond, List, [], ◌∷◌, length, get_or, drop}
use Rattle.std.proofs.Common.{map, Option, Some, None, Bor, refl, ap, sym, ◌∙◌, arith, add-one, drop-cons, bytes_eq}
use Rattle.std.proofs.lemmas.List.{drop_all, length-map, get_or-map}
use Rattle.line_form.specs.Kinds.{place_among, longest_of, ◌>>=◌}
use Rattle.line_form.proofs.PlaceLaws.{place-length}

abbrev pub texts_of : List (Bor (List ℕ)) → List (List ℕ)
texts_of texts = map (λ (p : Bor (List ℕ)). p.now) texts

-- the place from a place on
abbrev pub placed : ℕ → Option ℕ → Option ℕ
placed i p = p >>= λ j. Some (i + j)

pub placed-none : (p : Option ℕ) → p ≡ placed 0 p
placed-none None = refl
placed-none (Some j) = ap (λ (n : ℕ). Some n) (omega arith)

placed-more : (i : ℕ) (p : Option ℕ) → placed i (p >>= λ j. Some (suc j)) ≡ placed (i + 1) p
placed-more i None = refl
placed-more i (Some j) = ap (λ (n : ℕ). Some n) (omega arith)

from : (texts : List (List ℕ)) (i : ℕ) (text : List ℕ) → i < length texts → get_or texts i [] ≡ text
    → drop i texts ≡ text ∷ drop (i + 1) texts
from texts i text within is =
    drop-cons texts i [] within ∙ ap (λ (l : List ℕ). l ∷ drop (suc i) texts) is
    ∙ ap (λ (n : ℕ). text ∷ drop n texts) (sym (add-one i))

at_this : (i : ℕ) (texts : List (List ℕ)) (text word : List ℕ) (is : Bool) → bytes_eq text word ≡ is
    → placed i (place_among (text ∷ texts) word) ≡ cond is (Some (i + 0)) (placed (i + 1) (place_among texts word))
at_this i texts text word true e = rw e refl
at_this i texts text word false e = rw e (placed-more i (place_among texts word))

pub place-next : (texts : List (Bor (List ℕ))) (i : ℕ) (d : Bor (List ℕ)) (word : List ℕ) (is : Bool) → i < length texts
    → bytes_eq (get_or texts i d).now word ≡ is
    → placed i (place_among (drop i (texts_of texts)) word)
    ≡ cond is (Some i) (placed (i + 1) (place_among (drop (i + 1) (texts_of texts)) word))
place-next texts i d word is within e =
    let all = texts_of texts in
    let text = (get_or texts i d).now in
    let inside : i < length all = omega (arith, length-map texts (λ (p : Bor (List ℕ)). p.now)) in
    ap (λ (l : List (List ℕ)). placed i (place_among l word))
    (from all i text inside (get_or-map (λ (p : Bor (List ℕ)). p.now) texts i d [] within))
    ∙ at_this i (drop (i + 1) all) text word is e
    ∙ ap (λ (n : ℕ). cond is (Some n) (placed (i + 1) (place_among (drop (i + 1) all) word))) (omega arith)

pub place-past : (texts : List (Bor (List ℕ))) (i : ℕ) (word : List ℕ) → length texts ≤ i
    → placed i (place_among (drop i (texts_of texts)) word) ≡ None
place-past texts i word past =
    ap (λ (l : List (List ℕ)). placed i (place_among l word))
    (drop_all i (texts_of texts) (omega (arith, length-map texts (λ (p : Bor (List ℕ)). p.now))))

pub ruleset places = (placed-none, place-next, place-past)

-- the text at a place
pub text_inside : (texts : List (Bor (List ℕ))) (i : ℕ) (d : Bor (List ℕ)) → i < length texts
    → (get_or texts i d).now ≡ get_or (texts_of texts) i []
text_inside texts i d within = sym (get_or-map (λ (p : Bor (List ℕ)). p.now) texts i d [] within)

pub text_past : (texts : List (Bor (List ℕ))) (i : ℕ) → length texts ≤ i → get_or (texts_of texts) i [] ≡ []
text_past [] i past = refl
text_past (t ∷ texts) zero past = absurd (omega (arith, past))
text_past (t ∷ texts) (suc i) past = text_past texts i (omega (arith, past))

pub text_short : (texts : List (Bor (List ℕ))) (i : ℕ) (text : List ℕ) → text ≡ get_or (texts_of texts) i []
    → length text ≤ longest_of (texts_of texts)
text_short texts i text is = omega (arith, ap length is, place-length (texts_of texts) i)

pub ruleset texts_at = (text_inside, text_past, text_short)
