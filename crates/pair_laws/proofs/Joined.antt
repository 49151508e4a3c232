-- Ranges of slots, the one behind the other.
use Rattle.std.proofs.Common.{◌≡◌, ℕ, zero, suc, ◌+◌, ◌<◌, ◌≤◌, Bool, true, false, cond, ◌&&◌, List, [], ◌∷◌, ◌++◌}
use Rattle.std.proofs.Common.{refl, sym, ap, ◌∙◌, arith, inl, inr}
use Rattle.std.specs.Prelude.{nat_le, filter, flat_map}
use Rattle.std.specs.List.{range_with_len}
use Rattle.std.proofs.lemmas.Bool.{cases_lt, le-leb, lt-leb}
use Rattle.std.proofs.lemmas.List.Concat.{flat_map-append}
use Rattle.std.proofs.lemmas.List.Elements.{filter_agree}
use Rattle.std.proofs.Math.Bool.{and-false}
use Rattle.ttp_world.specs.declared.script.Script.{Script}
use Rattle.campaign.specs.Tried.{slots_between}

-- Numbers that a test takes, up to one of them and behind it.

abbrev up_to : (ℕ → Bool) → ℕ → ℕ → Bool
up_to r k j = r j && nat_le j k

abbrev behind : (ℕ → Bool) → ℕ → ℕ → Bool
behind r k j = r j && nat_le (k + 1) j

module _ (r : ℕ → Bool) (k : ℕ) where
  none-up_to : (a m : ℕ) → k < a → filter (up_to r k) (range_with_len a m) ≡ []
  none-up_to a zero more = refl
  none-up_to a (suc m) more =
      let rest = none-up_to (a + 1) m (omega (arith, more)) in
      ap (λ b. cond (r a && b) (a ∷ filter (up_to r k) (range_with_len (a + 1) m))
      (filter (up_to r k) (range_with_len (a + 1) m)))
      (lt-leb a k more)
      ∙ ap (λ b. cond b (a ∷ filter (up_to r k) (range_with_len (a + 1) m))
      (filter (up_to r k) (range_with_len (a + 1) m)))
      (and-false (r a))
      ∙ rest

  and-true : (b : Bool) → (b && true) ≡ b
  and-true true = refl
  and-true false = refl

  all-behind : (a m : ℕ) → k < a → filter (behind r k) (range_with_len a m) ≡ filter r (range_with_len a m)
  all-behind a zero more = refl
  all-behind a (suc m) more =
      let here : behind r k a ≡ r a = ap (λ b. r a && b) (le-leb (k + 1) a (omega (arith, more))) ∙ and-true (r a) in
      let rest = all-behind (a + 1) m (omega (arith, more)) in
      λ i. cond (here i) (a ∷ rest i) (rest i)

  before-others : (b : Bool) (a : ℕ) (xs ys zs : List ℕ) → xs ++ ys ≡ zs → cond b (a ∷ xs) xs ++ ys ≡ cond b (a ∷ zs) zs
  before-others true a xs ys zs same = ap (λ l. a ∷ l) same
  before-others false a xs ys zs same = same

  cut : (a m : ℕ) → filter (up_to r k) (range_with_len a m) ++ filter (behind r k) (range_with_len a m)
      ≡ filter r (range_with_len a m)
  cut a zero = refl
  cut a (suc m) =
      let range = range_with_len (a + 1) m in
      elim (cases_lt k a) [
        | inl more ↦
            ap (λ l. l ++ filter (behind r k) (range_with_len a (suc m))) (none-up_to a (suc m) more)
            ∙ all-behind a (suc m) more
        | inr within ↦
            let here : up_to r k a ≡ r a = ap (λ b. r a && b) (le-leb a k within) ∙ and-true (r a) in
            let not_here : behind r k a ≡ false =
            ap (λ b. r a && b) (lt-leb (k + 1) a (omega (arith, within))) ∙ and-false (r a) in
            ap (λ b. filter (up_to r k) (range_with_len a (suc m))
            ++ cond b (a ∷ filter (behind r k) range) (filter (behind r k) range))
            not_here
            ∙ ap (λ b. cond b (a ∷ filter (up_to r k) range) (filter (up_to r k) range)
            ++ filter (behind r k) range) here
            ∙ before-others (r a) a (filter (up_to r k) range)
            (filter (behind r k) range) (filter r range) (cut (a + 1) m)
      ]

-- The slots of two ranges.

low : (first middle last j : ℕ) → middle ≤ last
    → (nat_le first j && nat_le j middle) ≡ up_to (λ s. nat_le first s && nat_le s last) middle j
low first middle last j order = grind (arith, order)

high : (first middle last j : ℕ) → first ≤ middle
    → (nat_le (middle + 1) j && nat_le j last) ≡ behind (λ s. nat_le first s && nat_le s last) middle j
high first middle last j order = grind (arith, order)

-- what is told slot by slot, and then one by one
pub each-cut : {X Y : Type 0} (g : X → List Y) (f : ℕ → List X) (script : Script) (first middle last : ℕ)
    → first ≤ middle → middle ≤ last
    → flat_map g (flat_map f (slots_between script first middle))
    ++ flat_map g (flat_map f (slots_between script (middle + 1) last))
    ≡ flat_map g (flat_map f (slots_between script first last))
each-cut g f script first middle last order more =
    let r : ℕ → Bool = λ s. nat_le first s && nat_le s last in
    let slots : slots_between script first middle
    ++ slots_between script (middle + 1) last ≡ slots_between script first last =
    (λ i. filter_agree (λ j. nat_le first j && nat_le j middle) (up_to r middle) (λ j. low first middle last j more)
    (range_with_len 0 script.slots) i
    ++ filter_agree (λ j. nat_le (middle + 1) j && nat_le j last)
    (behind r middle) (λ j. high first middle last j order)
    (range_with_len 0 script.slots) i)
    ∙ cut r middle 0 script.slots in
    sym (flat_map-append g (flat_map f (slots_between script first middle))
    (flat_map f (slots_between script (middle + 1) last)))
    ∙ ap (flat_map g) (sym (flat_map-append f (slots_between script first middle)
    (slots_between script (middle + 1) last))
    ∙ ap (flat_map f) slots)
