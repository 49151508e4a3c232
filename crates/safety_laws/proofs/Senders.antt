-- The frames of a slot in which one node alone sends, or none.
use Rattle.safety_laws.proofs.Words.{◌≡◌, ◌≢◌, ℕ, zero, suc, ◌+◌, ◌<◌, ◌≤◌, List, [], ◌++◌, length, refl, ap, ◌∙◌, inl}
use Rattle.safety_laws.proofs.Words.{inr, arith, range_with_len, cases_eq, append-nil, Chosen, BegunSlot, frames_of}
use Rattle.safety_laws.proofs.Words.{frames_in}
use Rattle.std.specs.List.{flat_map}

flat_map-none : {X : Type 0} (f : ℕ → List X) (a n : ℕ) → ((k : ℕ) → a ≤ k → k < a + n → f k ≡ [])
    → flat_map f (range_with_len a n) ≡ []
flat_map-none f a zero none = refl
flat_map-none f a (suc n) none =
    ap (λ front. front ++ flat_map f (range_with_len (a + 1) n)) (none a (omega arith) (omega arith))
    ∙ flat_map-none f (a + 1) n (λ k from to. none k (omega arith) (omega arith))

flat_map-one : {X : Type 0} (f : ℕ → List X) (a n p : ℕ) → a ≤ p → p < a + n
    → ((k : ℕ) → a ≤ k → k < a + n → k ≢ p → f k ≡ []) → flat_map f (range_with_len a n) ≡ f p
flat_map-one f a zero p from to others = absurd (omega arith)
flat_map-one f a (suc n) p from to others = elim (cases_eq a p) [
  | inl same ↦
      let rest = flat_map-none f (a + 1) n (λ k later to. others k (omega arith) (omega arith) (omega arith)) in
      ap (λ back. f a ++ back) rest ∙ append-nil (f a) ∙ ap f same
  | inr other ↦
      ap (λ front. front ++ flat_map f (range_with_len (a + 1) n)) (others a (omega arith) (omega arith) other)
      ∙ flat_map-one f (a + 1) n p (omega arith) (omega arith)
      (λ k later to apart. others k (omega arith) (omega arith) apart)
]

-- nobody sends
pub frames_in-none : (s : BegunSlot) (chosen : List Chosen)
    → ((k : ℕ) → k < length s.list.slots → frames_of s chosen k ≡ []) → frames_in s chosen ≡ []
frames_in-none s chosen none =
    flat_map-none (frames_of s chosen) 0 (length s.list.slots) (λ k from to. none k (omega arith))

-- node p alone sends
pub frames_in-one : (s : BegunSlot) (chosen : List Chosen) (p : ℕ) → p < length s.list.slots
    → ((k : ℕ) → k < length s.list.slots → k ≢ p → frames_of s chosen k ≡ [])
    → frames_in s chosen ≡ frames_of s chosen p
frames_in-one s chosen p node others =
    flat_map-one (frames_of s chosen) 0 (length s.list.slots) p (omega arith) (omega arith)
    (λ k from to apart. others k (omega arith) apart)
