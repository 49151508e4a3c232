-- Where none of a range is found, none passes.
use Rattle.safety_laws.proofs.PlanWords.{◌≡◌, ℕ, zero, suc, ◌+◌, ◌<◌, ◌≤◌, Bool, true}
use Rattle.safety_laws.proofs.PlanWords.{false, cond, Some, None, refl, ap}
use Rattle.safety_laws.proofs.PlanWords.{sym, ◌∙◌, inl, inr, arith, cases_eq, none-some}
use Rattle.std.specs.List.{find, range_with_len}

none-step : (p : ℕ → Bool) (a k n : ℕ) (b : Bool) → p a ≡ b → cond b (Some a) (find p (range_with_len (a + 1) n)) ≡ None
    → (p a ≡ false) × (find p (range_with_len (a + 1) n) ≡ None)
none-step p a k n true passes none = absurd (none-some a (sym none))
none-step p a k n false fails none = (fails, none)

pub none-found : (p : ℕ → Bool) (a n k : ℕ) → find p (range_with_len a n) ≡ None → a ≤ k → k < a + n → p k ≡ false
none-found p a zero k none from to = absurd (omega arith)
none-found p a (suc n) k none from to =
    let parts = none-step p a k n (p a) refl none in
    elim (cases_eq a k) [
      | inl same ↦ ap p (sym same) ∙ parts.0
      | inr other ↦ none-found p (a + 1) n k parts.1 (omega arith) (omega arith)
    ]
