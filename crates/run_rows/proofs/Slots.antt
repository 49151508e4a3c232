-- The slots of a run, one after another.
use Rattle.std.proofs.Common.{◌≡◌, ℕ, zero, suc, ◌+◌, ◌-◌, ◌<◌, ◌≤◌, [], ◌∷◌, length}
use Rattle.std.proofs.Common.{ap, sym, subst, ◌∙◌, refl, add-one, arith}
use Rattle.std.proofs.Common.{inl, inr, unsigned_abs}
use Rattle.std.proofs.Math.Nat.{eq-or-lt_of_le}
use Rattle.controller.specs.Limits.{most_clock}
use Rattle.ttp_world.specs.ZerosWorld.{zeros_world}
use Rattle.ttp_world.proofs.ZerosWorlds.{length-zeros_world}
use Rattle.run_rows.proofs.FromBelow.{next_row}
use Rattle.run_rows.specs.Begun.{begun_shown}
use Rattle.run_rows.specs.Rows.{AreRowsNear, node_row, slot_in, past_slots_in}
use Rattle.run_rows.specs.declared.row.NodeRow.{NodeRow}
use Rattle.ttp_world.proofs.Slots.{node_of-slot_after}
use Rattle.ttp_world.specs.Diary.{entry_of}
use Rattle.ttp_world.specs.World.{BegunNode, node_after, node_of}
use Rattle.ttp_world.specs.declared.medl.Medl.{Medl}
use Rattle.ttp_world.specs.declared.script.Script.{Script}

pub past_slots_in-zero : (list : Medl) (script : Script) → past_slots_in list script 0 ≡ []
unfolding past_slots_in
past_slots_in-zero list script = refl

pub past_slots_in-suc : (list : Medl) (script : Script) (slot : ℕ)
    → past_slots_in list script (suc slot) ≡ slot_in list script slot ∷ past_slots_in list script slot
unfolding past_slots_in slot_in
past_slots_in-suc list script slot = refl

pub past_slots_in-next : (list : Medl) (script : Script) (slot : ℕ)
    → past_slots_in list script (slot + 1) ≡ slot_in list script slot ∷ past_slots_in list script slot
past_slots_in-next list script slot = ap (past_slots_in list script) (add-one slot) ∙ past_slots_in-suc list script slot

-- down from one that is not the first
pub past_slots_in-down : (list : Medl) (script : Script) (slot : ℕ) → 0 < slot
    → past_slots_in list script slot ≡ slot_in list script (slot - 1) ∷ past_slots_in list script (slot - 1)
past_slots_in-down list script slot some =
    let back : slot ≡ suc (slot - 1) = omega (arith, some) in
    ap (past_slots_in list script) back ∙ past_slots_in-suc list script (slot - 1)

pub length-past_slots_in : (list : Medl) (script : Script) (slots : ℕ)
    → length (past_slots_in list script slots) ≡ slots
length-past_slots_in list script zero = ap length (past_slots_in-zero list script)
length-past_slots_in list script (suc slot) =
    ap length (past_slots_in-suc list script slot) ∙ ap suc (length-past_slots_in list script slot)

-- What is read of a slot.

pub slot_in-number : (list : Medl) (script : Script) (slot : ℕ) → (slot_in list script slot).begun.number ≡ slot
unfolding slot_in
slot_in-number list script slot = length-zeros_world list script slot

pub slot_in-list : (list : Medl) (script : Script) (slot : ℕ) → (slot_in list script slot).begun.list ≡ list
unfolding slot_in
slot_in-list list script slot = refl

pub slot_in-script : (list : Medl) (script : Script) (slot : ℕ) → (slot_in list script slot).begun.script ≡ script
unfolding slot_in
slot_in-script list script slot = refl

-- what is kept of node k in it
pub node_row-slot_in : (list : Medl) (script : Script) (slot k : ℕ) (row : NodeRow) → k < length list.slots
    → row.begun ≡ begun_shown list (node_after list script (zeros_world list script slot) k)
    → row.entry ≡ entry_of (next_row list script slot) k
    → row ≡ node_row k (slot_in list script slot)
unfolding slot_in
node_row-slot_in list script slot k row less begun entry = λ i. record {
  begun = (begun ∙ ap (begun_shown list)
      (sym (node_of-slot_after list script (zeros_world list script slot) k less))) i;
  entry = entry i;
}

-- Clocks.

pub near-next : (list : Medl) (script : Script) (slot : ℕ) → AreRowsNear list script slot
    → ((k : ℕ) → k < length list.slots
    → unsigned_abs (node_after list script (zeros_world list script slot) k).clock ≤ most_clock)
    → AreRowsNear list script (slot + 1)
unfolding slot_in
near-next list script slot before here = λ t k less node.
    let within : t ≤ slot = omega (arith, less) in
    elim (eq-or-lt_of_le within) [
      | inl same ↦
          subst (λ (m : ℕ). unsigned_abs (node_of (slot_in list script m).begun k).clock ≤ most_clock) (sym same)
          (subst (λ (n : BegunNode). unsigned_abs n.clock ≤ most_clock)
          (sym (node_of-slot_after list script (zeros_world list script slot) k node)) (here k node))
      | inr lower ↦ before t k lower node
    ]
