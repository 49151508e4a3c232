-- Where a node comes from: the root and all joins on the way to it, back from a slot one step at a time.
use Rattle.std.proofs.Common.{◌≡◌, ℕ, ◌-◌, ◌<◌, Bool, true, false, List, [], ◌∷◌, Option, None, Some, ap, ◌∙◌}
use Rattle.causes.specs.RunSlots.{RunSlot, entry_in_slot, is_started, node_spot}
use Rattle.causes.specs.Said.{joined_from, path}
use Rattle.causes.specs.declared.cause.Spot.{Spot}
use Rattle.entry_causes.proofs.Past.{spot-in}
use Rattle.entry_causes.proofs.FromBelow.{past_slots_in-down, past_slots_in-zero}
use Rattle.run_rows.specs.Rows.{past_slots_in, slot_in}
use Rattle.ttp_world.specs.Diary.{begins_stint}
use Rattle.ttp_world.specs.declared.medl.Medl.{Medl}
use Rattle.ttp_world.specs.declared.script.Script.{Script}

abbrev or_path : Bool → Spot → List Spot → List Spot
or_path started spot rest = elim started [ true ↦ spot ∷ [] | false ↦ rest ]

abbrev path_by : Bool → Option ℕ → RunSlot → Spot → List Spot → (ℕ → List Spot) → List Spot
path_by begins from s spot on rest = elim begins [
  | false ↦ on
  | true ↦ elim from [
    | None ↦ spot ∷ []
    | Some p ↦ spot ∷ elim (is_started (entry_in_slot p s)) [ true ↦ node_spot p s ∷ [] | false ↦ rest p ]
  ]
]

abbrev path_step : Medl → Script → ℕ → ℕ → Bool → Option ℕ → Spot → List Spot
path_step list script at x begins from spot =
    path_by begins from (slot_in list script at) spot (path x (past_slots_in list script at))
    (λ p. path p (past_slots_in list script at))

path-down : (list : Medl) (script : Script) (slot x : ℕ) → 0 < slot
    → path x (past_slots_in list script slot)
    ≡ path_step list script (slot - 1) x (begins_stint (entry_in_slot x (slot_in list script (slot - 1))))
    (joined_from x (slot_in list script (slot - 1))) (node_spot x (slot_in list script (slot - 1)))
path-down list script slot x some = ap (path x) (past_slots_in-down list script slot some)

pub path-none : (list : Medl) (script : Script) (slot x : ℕ) → slot ≡ 0 → path x (past_slots_in list script slot) ≡ []
path-none list script slot x none = ap (path x) (ap (past_slots_in list script) none ∙ past_slots_in-zero list script)

pub path-on : (list : Medl) (script : Script) (slot x : ℕ) → 0 < slot
    → begins_stint (entry_in_slot x (slot_in list script (slot - 1))) ≡ false
    → path x (past_slots_in list script slot) ≡ path x (past_slots_in list script (slot - 1))
path-on list script slot x some other =
    path-down list script slot x some
    ∙ ap (λ (b : Bool). path_step list script (slot - 1) x b (joined_from x (slot_in list script (slot - 1)))
    (node_spot x (slot_in list script (slot - 1)))) other

pub path-here : (list : Medl) (script : Script) (slot x : ℕ) → 0 < slot
    → begins_stint (entry_in_slot x (slot_in list script (slot - 1))) ≡ true
    → joined_from x (slot_in list script (slot - 1)) ≡ None
    → path x (past_slots_in list script slot) ≡ record { slot = slot - 1; node = x } ∷ []
path-here list script slot x some begins from =
    path-down list script slot x some
    ∙ (λ i. path_step list script (slot - 1) x (begins i) (from i) (spot-in list script (slot - 1) x i))

pub path-started : (list : Medl) (script : Script) (slot x p : ℕ) → 0 < slot
    → begins_stint (entry_in_slot x (slot_in list script (slot - 1))) ≡ true
    → joined_from x (slot_in list script (slot - 1)) ≡ Some p
    → is_started (entry_in_slot p (slot_in list script (slot - 1))) ≡ true
    → path x (past_slots_in list script slot)
    ≡ record { slot = slot - 1; node = x } ∷ record { slot = slot - 1; node = p } ∷ []
path-started list script slot x p some begins from started =
    path-down list script slot x some
    ∙ (λ i. path_step list script (slot - 1) x (begins i) (from i) (spot-in list script (slot - 1) x i))
    ∙ (λ i. record { slot = slot - 1; node = x }
    ∷ or_path (started i) (spot-in list script (slot - 1) p i) (path p (past_slots_in list script (slot - 1))))

pub path-from : (list : Medl) (script : Script) (slot x p : ℕ) → 0 < slot
    → begins_stint (entry_in_slot x (slot_in list script (slot - 1))) ≡ true
    → joined_from x (slot_in list script (slot - 1)) ≡ Some p
    → is_started (entry_in_slot p (slot_in list script (slot - 1))) ≡ false
    → path x (past_slots_in list script slot)
    ≡ record { slot = slot - 1; node = x } ∷ path p (past_slots_in list script (slot - 1))
path-from list script slot x p some begins from started =
    path-down list script slot x some
    ∙ (λ i. path_step list script (slot - 1) x (begins i) (from i) (spot-in list script (slot - 1) x i))
    ∙ (λ i. record { slot = slot - 1; node = x }
    ∷ or_path (started i) (node_spot p (slot_in list script (slot - 1)))
    (path p (past_slots_in list script (slot - 1))))
