-- The slots of a run up to one of them, and the newest of them.
use Rattle.std.proofs.Common.{◌≡◌, ℕ, zero, suc, ◌+◌, ◌-◌, ◌<◌, ◌≤◌, [], ◌∷◌, take, drop, ap, sym, ◌∙◌, arith}
use Rattle.causes.specs.Members.{entry_at_spot, newest_entry_of}
use Rattle.causes.specs.OwnSlots.{slots_before_one}
use Rattle.causes.specs.RunSlots.{entry_in_slot, node_spot, slots_to}
use Rattle.causes.specs.declared.cause.Spot.{Spot}
use Rattle.entry_causes.proofs.FromBelow.{length-past_slots_in, past_slots_in-down, past_slots_in-next}
use Rattle.entry_causes.proofs.FromBelow.{past_slots_in-suc, past_slots_in-zero, slot_in-number}
use Rattle.run_rows.specs.Rows.{past_slots_in, slot_in}
use Rattle.ttp_world.specs.declared.medl.Medl.{Medl}
use Rattle.ttp_world.specs.declared.script.Script.{Script}

-- without the newest, so many
pub drop-past : (list : Medl) (script : Script) (m d : ℕ)
    → drop d (past_slots_in list script m) ≡ past_slots_in list script (m - d)
drop-past list script m zero =
    let same : m ≡ m - 0 = omega arith in
    ap (past_slots_in list script) same
drop-past list script zero (suc d) =
    let none : 0 ≡ 0 - suc d = omega arith in
    ap (drop (suc d)) (past_slots_in-zero list script) ∙ sym (past_slots_in-zero list script)
    ∙ ap (past_slots_in list script) none
drop-past list script (suc m) (suc d) =
    let same : m - d ≡ suc m - suc d = omega arith in
    ap (drop (suc d)) (past_slots_in-suc list script m)
    ∙ drop-past list script m d ∙ ap (past_slots_in list script) same

-- those before one of them
pub slots_before-past : (list : Medl) (script : Script) (n slot : ℕ) → slot ≤ n
    → slots_before_one (past_slots_in list script n) slot ≡ past_slots_in list script slot
slots_before-past list script n slot within =
    let back : n - (n - slot) ≡ slot = omega (arith, within) in
    ap (λ (k : ℕ). drop (k - slot) (past_slots_in list script n)) (length-past_slots_in list script n)
    ∙ drop-past list script n (n - slot)
    ∙ ap (past_slots_in list script) back

-- those up to one of them
pub slots_to-past : (list : Medl) (script : Script) (n slot : ℕ) → slot < n
    → slots_to (past_slots_in list script n) slot ≡ past_slots_in list script (slot + 1)
slots_to-past list script n slot less =
    let back : n - (n - suc slot) ≡ slot + 1 = omega (arith, less) in
    ap (λ (k : ℕ). drop (k - suc slot) (past_slots_in list script n)) (length-past_slots_in list script n)
    ∙ drop-past list script n (n - suc slot)
    ∙ ap (past_slots_in list script) back

-- the entry at a spot before a slot is that of the spot
pub entry_at_spot-before : (list : Medl) (script : Script) (n : ℕ) (spot : Spot) → spot.slot < n
    → entry_at_spot (past_slots_in list script n) spot ≡ entry_in_slot spot.node (slot_in list script spot.slot)
entry_at_spot-before list script n spot less =
    ap (newest_entry_of spot.node)
    (slots_to-past list script n spot.slot less ∙ past_slots_in-next list script spot.slot)

-- The newest of them, so many.

pub take-none : (list : Medl) (script : Script) (slot from : ℕ) → slot ≤ from
    → take (slot - from) (past_slots_in list script slot) ≡ []
take-none list script slot from past =
    let none : slot - from ≡ 0 = omega (arith, past) in
    ap (λ (k : ℕ). take k (past_slots_in list script slot)) none

pub take-down : (list : Medl) (script : Script) (slot from : ℕ) → from < slot
    → take (slot - from) (past_slots_in list script slot)
    ≡ slot_in list script (slot - 1) ∷ take (slot - 1 - from) (past_slots_in list script (slot - 1))
take-down list script slot from some =
    let count : slot - from ≡ suc (slot - 1 - from) = omega (arith, some) in
    ap (take (slot - from)) (past_slots_in-down list script slot (omega (arith, some)))
    ∙ ap (λ (k : ℕ). take k (slot_in list script (slot - 1) ∷ past_slots_in list script (slot - 1))) count

-- An entry's name.

pub spot-in : (list : Medl) (script : Script) (slot k : ℕ)
    → node_spot k (slot_in list script slot) ≡ record { slot = slot; node = k }
spot-in list script slot k = λ i. record { slot = slot_in-number list script slot i; node = k }
