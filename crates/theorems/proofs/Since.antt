-- What holds after each slot of a run from one on.
use Rattle.std.proofs.Common.{ℕ, zero, suc, ◌<◌, ◌≤◌, ◌-◌, [], ◌∷◌, length, drop, arith}
use Rattle.ttp_world.specs.declared.medl.Medl.{Medl}
use Rattle.ttp_world.specs.declared.script.Script.{Script}
use Rattle.ttp_world.specs.Diary.{History}
use Rattle.ttp_world.specs.Legal.{IsLegal}
use Rattle.ttp_world.specs.World.{Numbers, world}
use Rattle.ttp_world.proofs.LegalShapes.{legal-older}
use Rattle.ttp_world.proofs.Worlds.{length-world}
use Rattle.theorems.specs.Since.{HoldsSince}

-- it holds after each slot from one on, slot by slot
abbrev EachSince : (History → Type 0) → ℕ → History → Type 0
EachSince holds start [] = Unit {0}
EachSince holds start (row ∷ history) =
    EachSince holds start history × (start ≤ length history → holds (row ∷ history))

-- after so many slots fewer than all
slot-before : (holds : History → Type 0) (start fewer : ℕ) (history : History) → EachSince holds start history
    → start < length history - fewer → holds (drop fewer history)
slot-before holds start zero [] since after = absurd (omega (arith, after))
slot-before holds start zero (row ∷ history) since after = since.1 (omega (arith, after))
slot-before holds start (suc fewer) [] since after = absurd (omega (arith, after))
slot-before holds start (suc fewer) (row ∷ history) since after =
    slot-before holds start fewer history since.0 (omega (arith, after))

each-since : (list : Medl) (script : Script) (holds : History → Type 0) (start : ℕ)
    → ((numbers : Numbers) → IsLegal list script numbers → start < length numbers → length numbers ≤ script.slots
    → holds (world list script numbers))
    → (numbers : Numbers) → IsLegal list script numbers → length numbers ≤ script.slots
    → EachSince holds start (world list script numbers)
each-since list script holds start each [] legal within = tt
each-since list script holds start each (new ∷ numbers) legal within = (
  each-since list script holds start each numbers (legal-older list script new numbers legal) (omega (arith, within)),
  λ since.
      let count = length-world list script numbers in
      each (new ∷ numbers) legal (omega (arith, since, count)) within,
)

-- what holds for all legal numbers after a slot from the start on holds since then
pub world-since : (list : Medl) (script : Script) (holds : History → Type 0) (start : ℕ)
    → ((numbers : Numbers) → IsLegal list script numbers → start < length numbers → length numbers ≤ script.slots
    → holds (world list script numbers))
    → (numbers : Numbers) → IsLegal list script numbers → length numbers ≤ script.slots
    → HoldsSince holds start (world list script numbers)
world-since list script holds start each numbers legal within count after few =
    let history = world list script numbers in
    slot-before holds start (length history - count) history
    (each-since list script holds start each numbers legal within) (omega (arith, after, few))
