-- What a node missed since it was in doubt: back from a slot, one step at a time.
use Rattle.std.proofs.Common.{◌≡◌, ℕ, ◌-◌, ◌<◌, Bool, true, false, List, [], ◌∷◌, ap, ◌∙◌}
use Rattle.causes.specs.Judged.{doubt_entries}
use Rattle.causes.specs.RunSlots.{entry_in_slot, is_judged_so, is_miss, is_tentative, node_spot}
use Rattle.causes.specs.declared.cause.Spot.{Spot}
use Rattle.entry_causes.proofs.Past.{spot-in}
use Rattle.entry_causes.proofs.FromBelow.{past_slots_in-down, past_slots_in-zero}
use Rattle.run_rows.specs.Rows.{past_slots_in, slot_in}
use Rattle.ttp_world.specs.declared.medl.Medl.{Medl}
use Rattle.ttp_world.specs.declared.script.Script.{Script}

abbrev doubt_step : Bool → Bool → Spot → List Spot → List Spot
doubt_step tentative missed spot rest = elim tentative [
  | true ↦ spot ∷ []
  | false ↦ elim missed [ true ↦ spot ∷ rest | false ↦ rest ]
]

doubt-down : (list : Medl) (script : Script) (slot k : ℕ) → 0 < slot
    → doubt_entries k (past_slots_in list script slot)
    ≡ doubt_step (is_judged_so is_tentative (entry_in_slot k (slot_in list script (slot - 1))))
    (is_judged_so is_miss (entry_in_slot k (slot_in list script (slot - 1))))
    (node_spot k (slot_in list script (slot - 1))) (doubt_entries k (past_slots_in list script (slot - 1)))
doubt-down list script slot k some = ap (doubt_entries k) (past_slots_in-down list script slot some)

pub doubt-none : (list : Medl) (script : Script) (slot k : ℕ) → slot ≡ 0
    → doubt_entries k (past_slots_in list script slot) ≡ []
doubt-none list script slot k none =
    ap (doubt_entries k) (ap (past_slots_in list script) none ∙ past_slots_in-zero list script)

pub doubt-begun : (list : Medl) (script : Script) (slot k : ℕ) → 0 < slot
    → is_judged_so is_tentative (entry_in_slot k (slot_in list script (slot - 1))) ≡ true
    → doubt_entries k (past_slots_in list script slot) ≡ record { slot = slot - 1; node = k } ∷ []
doubt-begun list script slot k some tentative =
    doubt-down list script slot k some
    ∙ (λ i. doubt_step (tentative i) (is_judged_so is_miss (entry_in_slot k (slot_in list script (slot - 1))))
    (spot-in list script (slot - 1) k i) (doubt_entries k (past_slots_in list script (slot - 1))))

pub doubt-missed : (list : Medl) (script : Script) (slot k : ℕ) → 0 < slot
    → is_judged_so is_tentative (entry_in_slot k (slot_in list script (slot - 1))) ≡ false
    → is_judged_so is_miss (entry_in_slot k (slot_in list script (slot - 1))) ≡ true
    → doubt_entries k (past_slots_in list script slot)
    ≡ record { slot = slot - 1; node = k } ∷ doubt_entries k (past_slots_in list script (slot - 1))
doubt-missed list script slot k some other missed =
    doubt-down list script slot k some
    ∙ (λ i. doubt_step (other i) (missed i) (spot-in list script (slot - 1) k i)
    (doubt_entries k (past_slots_in list script (slot - 1))))

pub doubt-on : (list : Medl) (script : Script) (slot k : ℕ) → 0 < slot
    → is_judged_so is_tentative (entry_in_slot k (slot_in list script (slot - 1))) ≡ false
    → is_judged_so is_miss (entry_in_slot k (slot_in list script (slot - 1))) ≡ false
    → doubt_entries k (past_slots_in list script slot) ≡ doubt_entries k (past_slots_in list script (slot - 1))
doubt-on list script slot k some other due =
    doubt-down list script slot k some
    ∙ (λ i. doubt_step (other i) (due i) (node_spot k (slot_in list script (slot - 1)))
    (doubt_entries k (past_slots_in list script (slot - 1))))
