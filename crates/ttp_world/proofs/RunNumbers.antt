-- Message numbers that are those of a run: each that was sent, and one for each read.
use Rattle.ttp_world.proofs.Words.{◌≡◌, ℕ, ◌<◌, ◌^◌, List, [], ◌∷◌, length, IfSome, refl, arith, AllByRecursion, Medl}
use Rattle.ttp_world.proofs.Words.{Entry, Script, History, entry_of, message_of, SlotNumbers, Numbers}
use Rattle.ttp_world.proofs.LegalShapes.{HasShape}

-- the numbers of a slot have the shape that its row gives them, and a word of a line can hold each
pub record AreNumbersOf (list : Medl) (script : Script) (row : List Entry) (slot : ℕ) (new : SlotNumbers) : Type 0 where
  pub shape : HasShape list script slot row new
  pub small_sent : (k : ℕ) → k < length list.slots → IfSome (message_of (entry_of row k)) (λ i. i < 2 ^ 64)
  pub small_read : AllByRecursion (λ i. i < 2 ^ 64) new.read

-- slot by slot, the numbers are those of a history
abbrev pub AreNumbersOfAll : Medl → Script → History → Numbers → Type 0
AreNumbersOfAll list script [] [] = Unit {0}
AreNumbersOfAll list script [] (new ∷ numbers) = ⊥
AreNumbersOfAll list script (row ∷ history) [] = ⊥
AreNumbersOfAll list script (row ∷ history) (new ∷ numbers) =
    AreNumbersOf list script row (length numbers) new × AreNumbersOfAll list script history numbers

pub numbers-slots : (list : Medl) (script : Script) (history : History) (numbers : Numbers)
    → AreNumbersOfAll list script history numbers → length history ≡ length numbers
numbers-slots list script [] [] are = refl
numbers-slots list script [] (new ∷ numbers) are = absurd are
numbers-slots list script (row ∷ history) [] are = absurd are
numbers-slots list script (row ∷ history) (new ∷ numbers) are =
    omega (arith, numbers-slots list script history numbers are.1)
