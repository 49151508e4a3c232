-- Tests of the numbers of a range.
use Rattle.ttp_world.proofs.Words.{◌≡◌, ◌≢◌, ℕ, zero, suc, ◌+◌, ◌-◌, ◌<◌, ◌≤◌, Bool, true, ◌||◌, ap, ◌∙◌, inl, inr}
use Rattle.ttp_world.proofs.Words.{arith, false, cond, Some, None, refl, cases_eq, list_any, range_with_len}
use Rattle.std.proofs.Common.{◌⊎◌}
use Rattle.std.proofs.lemmas.Bool.{or_left, or_right}
use Rattle.std.specs.List.{find}

pub any-range : (p : ℕ → Bool) (a n slot : ℕ) → a ≤ slot → slot < a + n → p slot ≡ true
    → list_any p (range_with_len a n) ≡ true
any-range p a zero slot from to passes = absurd (omega arith)
any-range p a (suc n) slot from to passes = by (cases_eq a slot) (any-range p (a + 1) n slot)
  where
    by : (a ≡ slot) ⊎ (a ≢ slot)
        → (a + 1 ≤ slot → slot < a + 1 + n → p slot ≡ true → list_any p (range_with_len (a + 1) n) ≡ true)
        → (p a || list_any p (range_with_len (a + 1) n)) ≡ true
    by (inl same) rest = or_left (p a) _ (ap p same ∙ passes)
    by (inr other) rest = or_right (p a) _ (rest (omega arith) (omega arith) passes)

pub none-range : (p : ℕ → Bool) (a n : ℕ)
    → ((k : ℕ) → a ≤ k → k < a + n → p k ≡ false) → find p (range_with_len a n) ≡ None
none-range p a zero each = refl
none-range p a (suc n) each =
    ap (λ b. cond b (Some a) (find p (range_with_len (a + 1) n))) (each a (omega arith) (omega arith))
    ∙ none-range p (a + 1) n (λ k from to. each k (omega arith) (omega arith))

pub none-passes : (p : ℕ → Bool) (a n : ℕ) → ((k : ℕ) → a ≤ k → k < a + n → p k ≡ false)
    → list_any p (range_with_len a n) ≡ false
none-passes p a zero each = refl
none-passes p a (suc n) each =
    ap (λ b. b || list_any p (range_with_len (a + 1) n)) (each a (omega arith) (omega arith))
    ∙ none-passes p (a + 1) n (λ k from to. each k (omega arith) (omega arith))
