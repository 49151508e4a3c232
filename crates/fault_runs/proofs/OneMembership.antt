-- Where all nodes hold one membership, or none, some of them hold no two.
use Rattle.std.proofs.Common.{◌≡◌, ℕ, Bool, true, false, cond, not, ◌&&◌, ◌||◌}
use Rattle.std.proofs.Common.{List, [], ◌∷◌, Some, None, refl, ap, sym}
use Rattle.std.proofs.Common.{subst, ◌∙◌}
use Rattle.std.specs.List.{filter_map, cons_option, list_any}
use Rattle.std.specs.Str.{bytes_eq}
use Rattle.std.proofs.lemmas.Bool.{false≢true}
use Rattle.ttp_world.specs.declared.medl.Medl.{Medl}
use Rattle.ttp_world.specs.Diary.{History, diary_of}
use Rattle.ttp_world.specs.Hypothesis.{nodes_of}
use Rattle.ttp_world.specs.Safety.{members_of_node}
use Rattle.ttp_world.proofs.NumberWords.{bytes_eq-same}
use Rattle.ttp_world.proofs.SmallTests.{spelled as same_bytes}
use Rattle.campaign.specs.Cost.{each_once, firm_members, has_two, is_firm, memberships}
use Rattle.fault_runs.proofs.FromBelow.{two-others}

-- all sets are this one
abbrev AreAll : List ℕ → List (List ℕ) → Type 0
AreAll m [] = Unit {0}
AreAll m (x ∷ xs) = (x ≡ m) × AreAll m xs

others-none : (m x : List ℕ) (xs : List (List ℕ)) → x ≡ m → AreAll m xs → list_any (λ y. not (bytes_eq x y)) xs ≡ false
others-none m x [] is all = refl
others-none m x (y ∷ ys) is all =
    (λ i. not (bytes_eq (is i) (all.0 i)) || list_any (λ z. not (bytes_eq x z)) ys)
    ∙ ap (λ b. not b || list_any (λ z. not (bytes_eq x z)) ys) (bytes_eq-same m) ∙ others-none m x ys is all.1

not-two : (m : List ℕ) (xs : List (List ℕ)) → AreAll m xs → has_two (each_once xs) ≡ false
not-two m [] all = refl
not-two m (x ∷ xs) all = two-others x xs ∙ others-none m x xs all.0 all.1

-- Where a list has no two memberships, all of them are one.
same-if : (m x : List ℕ) (b c : Bool) → bytes_eq m x ≡ b → (not b || c) ≡ false → (x ≡ m) × (c ≡ false)
same-if m x true c same none = (sym (same_bytes m x same), none)
same-if m x false c same none = absurd (false≢true (sym none))

all-same : (m : List ℕ) (xs : List (List ℕ)) → list_any (λ y. not (bytes_eq m y)) xs ≡ false → AreAll m xs
all-same m [] none = tt
all-same m (x ∷ xs) none =
    let here = same-if m x (bytes_eq m x) (list_any (λ y. not (bytes_eq m y)) xs) refl none in
    (here.0, all-same m xs here.1)

-- Some of them.

some-all : (m x : List ℕ) (firm meant : Bool) (some all : List (List ℕ))
    → (AreAll m all → AreAll m some) → AreAll m (cons_option (cond (firm && true) (Some x) None) all)
    → AreAll m (cons_option (cond (firm && meant) (Some x) None) some)
some-all m x true true some all rest are = (are.0, rest are.1)
some-all m x true false some all rest are = rest are.1
some-all m x false meant some all rest are = rest are

module _ (list : Medl) (history : History) (among : ℕ → Bool) where
  some-members : (m : List ℕ) (ks : List ℕ) → AreAll m (filter_map (firm_members list history (λ k. true)) ks)
      → AreAll m (filter_map (firm_members list history among) ks)
  some-members m [] are = tt
  some-members m (k ∷ ks) are =
      some-all m (members_of_node list history k) (is_firm (diary_of history k)) (among k)
      (filter_map (firm_members list history among) ks) (filter_map (firm_members list history (λ k. true)) ks)
      (some-members m ks) are

  by-first : (all : List (List ℕ)) → filter_map (firm_members list history (λ k. true)) (nodes_of list) ≡ all
      → has_two (each_once all) ≡ false → has_two (memberships list history among) ≡ false
  by-first [] are none =
      not-two [] (filter_map (firm_members list history among) (nodes_of list))
      (some-members [] (nodes_of list) (subst (AreAll []) (sym are) tt))
  by-first (m ∷ all) are none =
      not-two m (filter_map (firm_members list history among) (nodes_of list))
      (some-members m (nodes_of list)
      (subst (AreAll m) (sym are) (refl, all-same m all (sym (two-others m all) ∙ none))))

  pub still-one : has_two (memberships list history (λ k. true)) ≡ false
      → has_two (memberships list history among) ≡ false
  still-one none = by-first (filter_map (firm_members list history (λ k. true)) (nodes_of list)) refl none
