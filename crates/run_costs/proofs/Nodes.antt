-- Of the first nodes, one more at a time.
use Rattle.std.proofs.Common.{◌≡◌, ℕ, suc, zero, ◌+◌, ◌<◌, Bool, true, false, ◌&&◌, ◌||◌, ltb, Option, inl, inr}
use Rattle.std.proofs.Common.{refl, ap, ◌∙◌, arith}
use Rattle.std.specs.Prelude.{◌==◌}
use Rattle.std.specs.List.{filter_map, cons_option, range_with_len}
use Rattle.std.proofs.lemmas.Bool.{cases_eq, eq-eqb, ne_eqb, lt-ltb, ltb-true}
use Rattle.std.proofs.lemmas.Bool.Decides.{same_from_decides}
use Rattle.ttp_base.specs.NodeSet.{below}

ltb-next : (j k : ℕ) → (j ≡ k → ⊥) → ltb j (k + 1) ≡ ltb j k
ltb-next j k other =
    same_from_decides (ltb j (k + 1)) (ltb j k) (
      λ is. let less = ltb-true j (k + 1) is in omega (arith, other),
      λ less. lt-ltb j (k + 1) (omega arith),
    )
    (λ is. ltb-true j k is, λ less. lt-ltb j k less)

-- node k is one of those that are counted so far, with one more
pub counted-in : (h p : ℕ → Bool) (k j : ℕ) → h k ≡ true
    → ((j == k) || ((ltb j k && h j) || p j)) ≡ ((ltb j (k + 1) && h j) || p j)
counted-in h p k j is = elim (cases_eq j k) [
  | inl same ↦
      let e : (j == k) ≡ true = eq-eqb j k same in
      let l : ltb j (k + 1) ≡ true = lt-ltb j (k + 1) (omega arith) in
      let t : h j ≡ true = ap h same ∙ is in
      rw (e, l, t)
  | inr other ↦
      let e : (j == k) ≡ false = ne_eqb j k other in
      let l = ltb-next j k other in
      rw (e, l)
]

pub counted-out : (h p : ℕ → Bool) (k j : ℕ) → h k ≡ false
    → ((ltb j k && h j) || p j) ≡ ((ltb j (k + 1) && h j) || p j)
counted-out h p k j is = elim (cases_eq j k) [
  | inl same ↦
      let t : h j ≡ false = ap h same ∙ is in
      rw t (none (ltb j k) (ltb j (k + 1)) (p j))
  | inr other ↦
      let l = ltb-next j k other in
      rw l
]
  where
    none : (a b c : Bool) → ((a && false) || c) ≡ ((b && false) || c)
    none true true c = refl
    none true false c = refl
    none false true c = refl
    none false false c = refl

filter_map_agree-range : {X : Type 0} (f g : ℕ → Option X) (a n : ℕ) → ((k : ℕ) → k < a + n → f k ≡ g k)
    → filter_map f (range_with_len a n) ≡ filter_map g (range_with_len a n)
filter_map_agree-range f g a zero agree = refl
filter_map_agree-range f g a (suc n) agree =
    let rest = filter_map_agree-range f g (a + 1) n (λ k within. agree k (omega arith)) in
    let here = agree a (omega arith) in
    λ i. cons_option (here i) (rest i)

pub filter_map_agree-below : {X : Type 0} (f g : ℕ → Option X) (n : ℕ) → ((k : ℕ) → k < n → f k ≡ g k)
    → filter_map f (below n) ≡ filter_map g (below n)
filter_map_agree-below f g n agree = filter_map_agree-range f g 0 n (λ k within. agree k (omega arith))
