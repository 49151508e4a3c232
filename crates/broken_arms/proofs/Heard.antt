-- The first slot in which a node is not heard.
use Rattle.std.proofs.Common.{◌≡◌, ℕ, zero, suc, ◌+◌, ◌<◌, ◌≤◌, Option, None, true, is_some, refl, ap, ◌∙◌, arith}
use Rattle.std.proofs.Common.{inl, inr}
use Rattle.std.proofs.lemmas.Bool.{cases_eq}
use Rattle.std.specs.List.{range_with_len}
use Rattle.std.specs.Option.{option_or}
use Rattle.ttp_world.specs.declared.medl.Medl.{Medl}
use Rattle.ttp_world.specs.declared.script.Script.{Script}
use Rattle.ttp_world.specs.Hypothesis.{ClusterStart}
use Rattle.broken_arms.specs.declared.reasons.NotOwed.{NotOwed}
use Rattle.broken_arms.specs.Arms.{unheard, unheard_in}
use Rattle.broken_arms.proofs.FromBelow.{or-some}

pub all-heard : (list : Medl) (script : Script) (start : ClusterStart) (k a n : ℕ)
    → ((t : ℕ) → a ≤ t → t < a + n → unheard_in list script start k t ≡ None)
    → unheard list script start k (range_with_len a n) ≡ None
all-heard list script start k a zero each = refl
all-heard list script start k a (suc n) each =
    (λ i. option_or (each a (omega arith) (omega arith) i)
    (all-heard list script start k (a + 1) n (λ t from to. each t (omega arith) (omega arith)) i))

pub first-unheard : (list : Medl) (script : Script) (start : ClusterStart) (k a n slot : ℕ) (found : Option NotOwed)
    → a ≤ slot → slot < a + n → ((t : ℕ) → a ≤ t → t < slot → unheard_in list script start k t ≡ None)
    → unheard_in list script start k slot ≡ found → is_some found ≡ true
    → unheard list script start k (range_with_len a n) ≡ found
first-unheard list script start k a zero slot found from to before is some = absurd (omega arith)
first-unheard list script start k a (suc n) slot found from to before is some = elim (cases_eq a slot) [
  | inl same ↦
      ap (λ first. option_or first (unheard list script start k (range_with_len (a + 1) n)))
      (ap (unheard_in list script start k) same ∙ is) ∙ or-some found _ some
  | inr other ↦
      ap (λ first. option_or first (unheard list script start k (range_with_len (a + 1) n)))
      (before a (omega arith) (omega (arith, other)))
      ∙ first-unheard list script start k (a + 1) n slot found (omega (arith, other)) (omega arith)
      (λ t above less. before t (omega arith) less) is some
]
