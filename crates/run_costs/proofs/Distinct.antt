-- Memberships, one more at a time.
use Rattle.std.proofs.Common.{◌≡◌, ℕ, suc, ◌+◌, Bool, true, false, cond, not, ◌||◌, List, [], ◌∷◌, ◌++◌, Option}
use Rattle.std.proofs.Common.{length, Some, None, refl, ap, sym, ◌∙◌, append-nil, arith}
use Rattle.std.specs.Prelude.{filter, nat_le}
use Rattle.std.specs.List.{filter_map, cons_option, list_any}
use Rattle.std.specs.Str.{bytes_eq}
use Rattle.std.proofs.lemmas.Bool.{le-leb}
use Rattle.std.proofs.lemmas.Bool.Decides.{same_from_decides}
use Rattle.std.proofs.lemmas.List.Elements.{filter-append, filter_map-append}
use Rattle.std.proofs.lemmas.List.Folds.{list_any-append}
use Rattle.std.proofs.lemmas.Map.Views.{any-filter_same}
use Rattle.std.proofs.lemmas.Slice.Eq.{bytes_eq-Decides}
use Rattle.ttp_base.specs.NodeSet.{below}
use Rattle.ttp_base.proofs.Below.{below-next}
use Rattle.campaign.specs.Cost.{each_once}
use Rattle.run_costs.specs.States.{IsHeld}
use Rattle.run_costs.specs.declared.seen_costs.sets.Held.{Held}
use Rattle.ttp_world.proofs.SmallTests.{spelled as same_bytes}

-- Items, one more at a time.

pub items-next : {X : Type 0} (h : ℕ → Option X) (n : ℕ) (found : Option X) → h n ≡ found
    → filter_map h (below (n + 1)) ≡ filter_map h (below n) ++ cons_option found []
items-next h n found is =
    ap (filter_map h) (below-next n) ∙ filter_map-append h (below n) (n ∷ [])
    ∙ ap (λ o. filter_map h (below n) ++ cons_option o []) is

pub item-in : {X : Type 0} (h : ℕ → Option X) (n : ℕ) (x : X) → h n ≡ Some x
    → filter_map h (below (n + 1)) ≡ filter_map h (below n) ++ x ∷ []
item-in h n x is = items-next h n (Some x) is

pub item-out : {X : Type 0} (h : ℕ → Option X) (n : ℕ) → h n ≡ None
    → filter_map h (below (n + 1)) ≡ filter_map h (below n)
item-out h n is = items-next h n None is ∙ append-nil (filter_map h (below n))

-- The same bytes.

pub bytes_eq-sym : (a b : List ℕ) → bytes_eq a b ≡ bytes_eq b a
bytes_eq-sym a b =
    same_from_decides (bytes_eq a b) (bytes_eq b a) (bytes_eq-Decides a b) (
      λ same. sym ((bytes_eq-Decides b a).0 same),
      λ same. (bytes_eq-Decides b a).1 (sym same),
    )

-- Whether there are two.

filter-twice-if : {X : Type 0} (q : X → Bool) (x : X) (xs : List X) (b : Bool) → q x ≡ b
    → filter q (filter q xs) ≡ filter q xs → filter q (cond b (x ∷ filter q xs) (filter q xs))
    ≡ cond b (x ∷ filter q xs) (filter q xs)
filter-twice-if q x xs true is rest =
    ap (λ (b : Bool). cond b (x ∷ filter q (filter q xs)) (filter q (filter q xs))) is
    ∙ ap (λ (ys : List _). x ∷ ys) rest
filter-twice-if q x xs false is rest = rest

filter-twice : {X : Type 0} (q : X → Bool) (xs : List X) → filter q (filter q xs) ≡ filter q xs
filter-twice q [] = refl
filter-twice q (x ∷ xs) = filter-twice-if q x xs (q x) refl (filter-twice q xs)

-- of a list whose items are each told once, some is another than the first
two-if : (m x : List ℕ) (xs : List (List ℕ)) (b : Bool) → bytes_eq m x ≡ b
    → nat_le 2 (suc (length (filter (λ y. not (bytes_eq m y)) (each_once xs))))
    ≡ list_any (λ y. not (bytes_eq m y)) xs
    → nat_le 2
    (suc (length (cond (not b) (x ∷ filter (λ y. not (bytes_eq m y)) (filter (λ y. not (bytes_eq x y)) (each_once xs)))
    (filter (λ y. not (bytes_eq m y)) (filter (λ y. not (bytes_eq x y)) (each_once xs))))))
    ≡ (not b || list_any (λ y. not (bytes_eq m y)) xs)
two-if m x xs true same rest =
    ap (λ (z : List ℕ). nat_le 2
    (suc (length (filter (λ y. not (bytes_eq m y)) (filter (λ y. not (bytes_eq z y)) (each_once xs))))))
    (sym (same_bytes m x same))
    ∙ ap (λ (ys : List (List ℕ)). nat_le 2 (suc (length ys))) (filter-twice (λ y. not (bytes_eq m y)) (each_once xs))
    ∙ rest
two-if m x xs false same rest = le-leb 2 _ (omega arith)

pub two-others : (m : List ℕ) (xs : List (List ℕ))
    → nat_le 2 (suc (length (filter (λ y. not (bytes_eq m y)) (each_once xs)))) ≡ list_any (λ y. not (bytes_eq m y)) xs
two-others m [] = refl
two-others m (x ∷ xs) = two-if m x xs (bytes_eq m x) refl (two-others m xs)

or-one : (a b : Bool) → (a || (b || false)) ≡ (a || b)
or-one true b = refl
or-one false true = refl
or-one false false = refl

-- what is kept of memberships, with one more
pub held-first : (held : Held) (set : List ℕ) (sets : List (List ℕ)) → held.first ≡ None → IsHeld held sets
    → IsHeld (record held { first = Some set }) (sets ++ set ∷ [])
held-first held set [] none is = record { first = refl; two = is.two }
held-first held set (m ∷ sets) none is = absurd (let both : Some m ≡ None = sym is.first ∙ none in cc)

pub held-next : (held : Held) (first set : List ℕ) (sets : List (List ℕ)) (two : Bool) → held.first ≡ Some first
    → two ≡ (held.are_two || not (bytes_eq first set)) → IsHeld held sets
    → IsHeld (record held { are_two = two }) (sets ++ set ∷ [])
held-next held first set [] two some is holds = absurd (let both : Some first ≡ None = sym some ∙ holds.first in cc)
held-next held first set (m ∷ sets) two some is holds =
    let same : first ≡ m = (let both : Some first ≡ Some m = sym some ∙ holds.first in cc) in
    record {
      first = holds.first;
      two =
          is
          ∙ (λ i. (holds.two ∙ two-others m sets) i || not (bytes_eq (same i) set))
          ∙ sym (or-one (list_any (λ y. not (bytes_eq m y)) sets) (not (bytes_eq m set)))
          ∙ sym (list_any-append (λ y. not (bytes_eq m y)) sets (set ∷ []))
          ∙ sym (two-others m (sets ++ set ∷ []));
    }

-- One more, unless it is there.

there-if : (s x : List ℕ) (sets : List (List ℕ)) (b there : Bool) → bytes_eq s x ≡ b
    → list_any (bytes_eq s) sets ≡ there
    → (x ∷ filter (λ y. not (bytes_eq x y)) (cond there sets (sets ++ s ∷ [])))
    ≡ cond (b || list_any (bytes_eq s) (filter (λ y. not (bytes_eq x y)) sets))
    (x ∷ filter (λ y. not (bytes_eq x y)) sets)
    ((x ∷ filter (λ y. not (bytes_eq x y)) sets) ++ s ∷ [])
there-if s x sets true true same is = refl
there-if s x sets true false same is =
    ap (λ (ys : List (List ℕ)). x ∷ ys)
    (filter-append (λ y. not (bytes_eq x y)) sets (s ∷ [])
    ∙ ap (λ (b : Bool). filter (λ y. not (bytes_eq x y)) sets ++ cond (not b) (s ∷ []) []) (bytes_eq-sym x s ∙ same)
    ∙ append-nil (filter (λ y. not (bytes_eq x y)) sets))
there-if s x sets false there other is =
    let found : list_any (bytes_eq s) (filter (λ y. not (bytes_eq x y)) sets) ≡ there =
    any-filter_same (bytes_eq s) (λ y. not (bytes_eq x y)) true
    (λ k same. ap not (ap (bytes_eq x) (sym (same_bytes s k same)) ∙ bytes_eq-sym x s ∙ other)) sets ∙ is in
    kept there ∙ sym (ap (λ (b : Bool). cond b (x ∷ filter (λ y. not (bytes_eq x y)) sets)
    ((x ∷ filter (λ y. not (bytes_eq x y)) sets) ++ s ∷ [])) found)
  where
    kept : (b : Bool) → (x ∷ filter (λ y. not (bytes_eq x y)) (cond b sets (sets ++ s ∷ [])))
        ≡ cond b (x ∷ filter (λ y. not (bytes_eq x y)) sets) ((x ∷ filter (λ y. not (bytes_eq x y)) sets) ++ s ∷ [])
    kept true = refl
    kept false =
        ap (λ (ys : List (List ℕ)). x ∷ ys)
        (filter-append (λ y. not (bytes_eq x y)) sets (s ∷ [])
        ∙ ap (λ (b : Bool). filter (λ y. not (bytes_eq x y)) sets ++ cond (not b) (s ∷ []) [])
        (bytes_eq-sym x s ∙ other))

each_once-next : (all : List (List ℕ)) (s : List ℕ)
    → each_once (all ++ s ∷ []) ≡ cond (list_any (bytes_eq s) (each_once all)) (each_once all) (each_once all ++ s ∷ [])
each_once-next [] s = refl
each_once-next (x ∷ xs) s =
    ap (λ (ys : List (List ℕ)). x ∷ filter (λ y. not (bytes_eq x y)) ys) (each_once-next xs s)
    ∙ there-if s x (each_once xs) (bytes_eq s x) (list_any (bytes_eq s) (each_once xs)) refl refl

pub once-there : (all sets : List (List ℕ)) (s : List ℕ) → sets ≡ each_once all → list_any (bytes_eq s) sets ≡ true
    → sets ≡ each_once (all ++ s ∷ [])
once-there all sets s are there =
    are
    ∙ sym (ap (λ (b : Bool). cond b (each_once all) (each_once all ++ s ∷ []))
    (ap (list_any (bytes_eq s)) (sym are) ∙ there))
    ∙ sym (each_once-next all s)

pub once-new : (all sets : List (List ℕ)) (s : List ℕ) → sets ≡ each_once all → list_any (bytes_eq s) sets ≡ false
    → sets ++ s ∷ [] ≡ each_once (all ++ s ∷ [])
once-new all sets s are new =
    ap (λ (ys : List (List ℕ)). ys ++ s ∷ []) are
    ∙ sym (ap (λ (b : Bool). cond b (each_once all) (each_once all ++ s ∷ []))
    (ap (list_any (bytes_eq s)) (sym are) ∙ new))
    ∙ sym (each_once-next all s)
