-- Bytes cut before the first of some bytes.
use Rattle.std.proofs.Common.{◌≡◌, ℕ, suc, ◌+◌, ◌≤◌, Bool, true, false, cond}
use Rattle.std.proofs.Common.{List, [], ◌∷◌, ◌++◌, length, take, drop, not}
use Rattle.std.proofs.Common.{Some, None, refl, ap, arith}
use Rattle.std.specs.Prelude.{◌==◌, position}
use Rattle.std.specs.List.{position_or_len}
use Rattle.std.proofs.lemmas.List.Sums.{prefix_len-le-length}
use Rattle.std.proofs.lemmas.Bool.Decides.{nat_tests}
use Rattle.line_form.specs.Kinds.{front, back}

-- both parts make the whole
pub front-back : (b : ℕ) (bytes : List ℕ) → front b bytes ++ back b bytes ≡ bytes
front-back b [] = refl
front-back b (c ∷ bytes) = go (c == b) (front-back b bytes)
  where
    go : (is : Bool) → front b bytes ++ back b bytes ≡ bytes
        → cond is [] (c ∷ front b bytes) ++ cond is (c ∷ bytes) (back b bytes) ≡ c ∷ bytes
    go true rest = refl
    go false rest = ap (λ (l : List ℕ). c ∷ l) rest

pub front-length : (b : ℕ) (bytes : List ℕ) → length (front b bytes) ≤ length bytes
front-length b [] = omega arith
front-length b (c ∷ bytes) = go (c == b) (front-length b bytes)
  where
    go : (is : Bool) → length (front b bytes) ≤ length bytes
        → length (cond is [] (c ∷ front b bytes)) ≤ length (c ∷ bytes)
    go true less = omega arith
    go false less = omega arith

pub drop-front : (b : ℕ) (bytes : List ℕ) → drop (length (front b bytes)) bytes ≡ back b bytes
drop-front b [] = refl
drop-front b (c ∷ bytes) = go (c == b) (drop-front b bytes)
  where
    go : (is : Bool) → drop (length (front b bytes)) bytes ≡ back b bytes
        → drop (length (cond is [] (c ∷ front b bytes))) (c ∷ bytes) ≡ cond is (c ∷ bytes) (back b bytes)
    go true rest = refl
    go false rest = rest

-- where the first such byte is
pub take-end : (b : ℕ) (bytes : List ℕ)
    → (take (position_or_len (λ c. c == b) bytes) bytes ≡ front b bytes)
    × (drop (position_or_len (λ c. c == b) bytes) bytes ≡ back b bytes)
take-end b [] = (refl, refl)
take-end b (c ∷ bytes) = go (c == b) (position_or_len (λ d. d == b) bytes) (take-end b bytes)
  where
    go : (is : Bool) (n : ℕ) → (take n bytes ≡ front b bytes) × (drop n bytes ≡ back b bytes)
        → (take (cond (not is) (1 + n) 0) (c ∷ bytes) ≡ cond is [] (c ∷ front b bytes))
        × (drop (cond (not is) (1 + n) 0) (c ∷ bytes) ≡ cond is (c ∷ bytes) (back b bytes))
    go true n rest = (refl, refl)
    go false n rest =
        let e : 1 + n ≡ suc n = omega arith in rw e (ap (λ (l : List ℕ). c ∷ l) rest.0, rest.1)

pub at_position : (b : ℕ) (bytes : List ℕ) (end : ℕ) → position (λ c. c == b) bytes ≡ Some end
    → (take end bytes ≡ front b bytes) × (drop end bytes ≡ back b bytes)
at_position b bytes end e =
    let is : position_or_len (λ c. c == b) bytes ≡ end = grind (arith, nat_tests) in rw (← is) (take-end b bytes)

pub no_position : (b : ℕ) (bytes : List ℕ) → position (λ c. c == b) bytes ≡ None
    → (take (length bytes) bytes ≡ front b bytes) × (drop (length bytes) bytes ≡ back b bytes)
no_position b bytes e =
    let past : length bytes ≤ position_or_len (λ c. c == b) bytes = grind (arith, nat_tests) in
    let is : position_or_len (λ c. c == b) bytes ≡ length bytes =
    omega (arith, past, prefix_len-le-length (λ c. not (c == b)) bytes) in
    rw (← is) (take-end b bytes)

pub at_position-back : (b : ℕ) (bytes : List ℕ) (end : ℕ) → position (λ c. c == b) bytes ≡ Some end
    → drop end bytes ≡ back b bytes
at_position-back b bytes end e = (at_position b bytes end e).1

pub no_position-back : (b : ℕ) (bytes : List ℕ) → position (λ c. c == b) bytes ≡ None
    → drop (length bytes) bytes ≡ back b bytes
no_position-back b bytes e = (no_position b bytes e).1

pub ruleset cuts = (front-length, drop-front)

pub ruleset ends = (at_position, no_position, at_position-back, no_position-back)
