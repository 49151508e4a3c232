-- The least of some numbers, found one after another.
use Rattle.hypothesis.proofs.Words.{◌≡◌, ℕ, suc, ◌+◌, ◌-◌, ◌<◌, List, ◌∷◌, Option, Some, None, refl, ap, ◌∙◌, arith}
use Rattle.hypothesis.proofs.Words.{filter_map, range_with_len, lesser, least_of}

-- the lesser of two numbers of which each may be there
abbrev pub lesser_of : Option ℕ → Option ℕ → Option ℕ
lesser_of None other = other
lesser_of (Some n) other = lesser n other

-- what was found so far, with what is found now
abbrev pub with_found : Option ℕ → Option ℕ → Option ℕ
with_found None least = least
with_found (Some n) least = lesser n least

lesser-turns : (n : ℕ) (least rest : Option ℕ) → lesser_of (lesser n least) rest ≡ lesser_of least (lesser n rest)
lesser-turns n None rest = refl
lesser-turns n (Some m) None = ap Some (omega arith)
lesser-turns n (Some m) (Some l) = ap Some (omega arith)

found-next : {X : Type 0} (f : X → Option ℕ) (xs : List X) (least found : Option ℕ) (x : X) → f x ≡ found
    → lesser_of (with_found found least) (least_of (filter_map f xs))
    ≡ lesser_of least (least_of (filter_map f (x ∷ xs)))
found-next f xs least None x is = rw is refl
found-next f xs least (Some n) x is = rw is (lesser-turns n least (least_of (filter_map f xs)))

pub least-next : {X : Type 0} (f : X → Option ℕ) (x : X) (xs : List X) (least total : Option ℕ)
    → lesser_of least (least_of (filter_map f (x ∷ xs))) ≡ total
    → lesser_of (with_found (f x) least) (least_of (filter_map f xs)) ≡ total
least-next f x xs least total so_far = found-next f xs least (f x) x refl ∙ so_far

pub range-next : (k n : ℕ) → k < n → range_with_len k (n - k) ≡ k ∷ range_with_len (k + 1) (n - (k + 1))
range-next k n less =
    let size : n - k ≡ suc (n - (k + 1)) = omega arith in
    ap (range_with_len k) size
