-- A pass over a part of a cluster's nodes: each element is written once.
use Rattle.controller.proofs.Words.{◌≡◌, ◌≢◌, ℕ, zero, suc, ◌+◌, ◌-◌, ◌<◌, ◌≤◌, List, [], ◌∷◌, ◌++◌, length, get_or}
use Rattle.controller.proofs.Words.{set, Some, refl, sym, ap, ◌∙◌, subst, arith, slice_get, slice_get_within, same_Some}
use Rattle.controller.proofs.Words.{⊎_elim, below_more, cases_lt, length-set, same_lists}
use Rattle.controller.proofs.Words.{get_or_from_slice_get, slice_get-get_or, slice_get-set_same}
use Rattle.controller.specs.Parts.{EachFrom}

-- what is at a place after a write

slice_get-set_other : {X : Type 0} (xs : List X) (i k : ℕ) (y : X) → k ≢ i → slice_get (set xs i y) k ≡ slice_get xs k
slice_get-set_other (x ∷ xs) zero zero y other = absurd (other refl)
slice_get-set_other (x ∷ xs) (suc i) (suc k) y other = slice_get-set_other xs i k y (λ same. other (ap suc same))
slice_get-set_other _ i k y other = refl

-- what was and is at a place that was written
pub record IsPassed {X : Type 0} (R : ℕ → X → X → Type 0) (k : ℕ) (old new : List X) : Type 0 where
  pub before : X
  pub after : X
  pub was : slice_get old k ≡ Some before
  pub is : slice_get new k ≡ Some after
  pub by : R k before after

-- the first elements, so many, were written; the others are as they were
pub record ArePassed {X : Type 0} (R : ℕ → X → X → Type 0) (i : ℕ) (old new : List X) : Type 0 where
  pub count : length new ≡ length old
  pub done : (k : ℕ) → k < i → IsPassed R k old new
  pub rest : (k : ℕ) → i ≤ k → slice_get new k ≡ slice_get old k

pub ArePassed-none : {X : Type 0} {R : ℕ → X → X → Type 0} (xs : List X) → ArePassed R 0 xs xs
ArePassed-none xs = record { count = refl; done = λ k less. absurd (omega arith); rest = λ k _. refl }

-- After a pass over the first of them.
module _ {X : Type 0} {R : ℕ → X → X → Type 0} {i : ℕ} {old new : List X} (passed : ArePassed R i old new) where
  -- what an element that is still to come was
  pub ArePassed-coming : (d : X) → i < length old → slice_get old i ≡ Some (get_or new i d)
  ArePassed-coming d within =
      sym (passed.rest i (omega arith)) ∙ slice_get-get_or new i d (omega (arith, passed.count))

  -- one element more
  pub ArePassed-more : {y : X} (d : X) → i < length old → R i (get_or new i d) y → ArePassed R (i + 1) old (set new i y)
  ArePassed-more {y = y} d within by = record {
    count = length-set new i y ∙ passed.count;
    done = below_more (λ k. IsPassed R k old (set new i y)) i (λ k earlier.
        let at = passed.done k earlier in record {
          before = at.before;
          after = at.after;
          was = at.was;
          by = at.by;
          is = slice_get-set_other new i k y (omega arith) ∙ at.is;
        }) (record {
          before = get_or new i d;
          after = y;
          was = ArePassed-coming d within;
          is = slice_get-set_same new i y (omega (arith, passed.count));
          by = by;
        });
    rest = λ k later. slice_get-set_other new i k y (omega arith) ∙ passed.rest k (omega arith);
  }

  -- When all were written, what follows of each holds of the whole part.

  pub each-new : {first : ℕ} {P Q : ℕ → X → Type 0} → length old ≤ i → EachFrom first P old
      → ((j : ℕ) (x y : X) → R j x y → P (first + j) x → Q (first + j) y) → EachFrom first Q new
  each-new {first = first} {Q = Q} all was step = record {
    each = λ j y here.
        let at = passed.done j (omega (arith, slice_get_within new j y here, passed.count)) in
        subst (Q (first + j)) (same_Some _ _ (sym at.is ∙ here))
        (step j at.before at.after at.by (was.each j at.before at.was));
  }

  -- where the part begins with node 0
  pub all-new : {P Q : ℕ → X → Type 0} → length old ≤ i → EachFrom 0 P old
      → ((j : ℕ) (x y : X) → R j x y → P j x → Q j y) → EachFrom 0 Q new
  all-new {P = P} {Q = Q} all was step =
      each-new all was (λ j x y by. let at : j ≡ 0 + j = omega arith in
      subst (λ (n : ℕ). P n x → Q n y) at (step j x y by))

-- when all were written as they stand in another list, they are that list
pub all-copied : {X : Type 0} {i : ℕ} {old new : List X} (from : List X)
    → ArePassed (λ j before after. slice_get from j ≡ Some after) i old new → length old ≤ i → length old ≡ length from
    → new ≡ from
all-copied {new = new} from passed all count =
    same_lists new from (passed.count ∙ count) (λ k d within.
    let at = passed.done k (omega (arith, passed.count)) in
    get_or_from_slice_get new k at.after d at.is ∙ sym (get_or_from_slice_get from k at.after d at.by))

-- What holds of each element holds of the one at a place of a part that begins with node 0.
pub each-of : {X : Type 0} {P : ℕ → X → Type 0} {xs : List X} {x : X} → EachFrom 0 P xs → (k : ℕ)
    → slice_get xs k ≡ Some x → P k x
each-of {P = P} {x = x} all k here = subst (λ (n : ℕ). P n x) (omega arith) (all.each k x here)

-- Two parts of the nodes, one after the other.

at_front : {X : Type 0} (xs ys : List X) (k : ℕ) → k < length xs → slice_get (xs ++ ys) k ≡ slice_get xs k
at_front [] ys k less = absurd (omega (arith, less))
at_front (x ∷ xs) ys zero less = refl
at_front (x ∷ xs) ys (suc k) less = at_front xs ys k (omega (arith, less))

at_back : {X : Type 0} (xs ys : List X) (k : ℕ) → slice_get (xs ++ ys) (length xs + k) ≡ slice_get ys k
at_back [] ys k = ap (slice_get ys) (omega arith)
at_back (x ∷ xs) ys k =
    let next : length (x ∷ xs) + k ≡ suc (length xs + k) = omega arith in
    ap (slice_get (x ∷ xs ++ ys)) next ∙ at_back xs ys k

module _ {X : Type 0} {first : ℕ} {P : ℕ → X → Type 0} where
  -- what holds of each of both parts holds of each of either
  pub each-front : {xs zs : List X} (ys : List X) → zs ≡ xs ++ ys → EachFrom first P zs → EachFrom first P xs
  each-front {xs = xs} ys parts all = record {
    each = λ k x here. all.each k x
        (ap (λ s. slice_get s k) parts ∙ at_front xs ys k (slice_get_within xs k x here) ∙ here);
  }

  pub each-back : {next : ℕ} {ys zs : List X} (xs : List X) → zs ≡ xs ++ ys → next ≡ first + length xs
      → EachFrom first P zs → EachFrom next P ys
  each-back {ys = ys} xs parts is all = record {
    each = λ k x here. subst (λ (n : ℕ). P n x) (omega (arith, is))
        (all.each (length xs + k) x (ap (λ s. slice_get s (length xs + k)) parts ∙ at_back xs ys k ∙ here));
  }

  -- and the other way round
  pub each-joined : {next : ℕ} {xs ys : List X} → next ≡ first + length xs → EachFrom first P xs
      → EachFrom next P ys → EachFrom first P (xs ++ ys)
  each-joined {xs = xs} {ys = ys} is front back = record {
    each = λ k x here. ⊎_elim (λ less. front.each k x (sym (at_front xs ys k less) ∙ here)) (λ more.
        let at : length xs + (k - length xs) ≡ k = omega (arith, more) in
        subst (λ (n : ℕ). P n x) (omega (arith, is, at)) (back.each (k - length xs) x
        (sym (at_back xs ys (k - length xs)) ∙ ap (slice_get (xs ++ ys)) at ∙ here)))
        (cases_lt k (length xs));
  }

pub each-push : {X : Type 0} {first : ℕ} {P : ℕ → X → Type 0} (xs : List X) (y : X) → EachFrom first P xs
    → P (first + length xs) y → EachFrom first P (xs ++ y ∷ [])
each-push {P = P} xs y all last = each-joined refl all (record {
  each = λ k x here.
      let only : k ≡ 0 = omega (arith, slice_get_within (y ∷ []) k x here) in
      let same = same_Some _ _ (ap (slice_get (y ∷ [])) (sym only) ∙ here) in
      subst (λ (n : ℕ). P n x) (omega (arith, only)) (subst (P _) same last);
})

-- where all of it holds of both parts
pub ruleset halves = (each-front, each-back, each-joined)
