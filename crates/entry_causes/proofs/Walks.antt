-- What nodes said of others, and where they come from: back from a slot, one step at a time.
use Rattle.std.proofs.Common.{◌≡◌, ℕ, ◌-◌, ◌<◌, Bool, true, false, Option, None, Some, ap, ◌∙◌}
use Rattle.causes.specs.RunSlots.{RunSlot, entry_in_slot, is_started, node_spot}
use Rattle.causes.specs.Said.{joined_from, root, said, speaks_of}
use Rattle.causes.specs.declared.cause.Spot.{Spot}
use Rattle.entry_causes.proofs.Past.{spot-in}
use Rattle.entry_causes.proofs.FromBelow.{past_slots_in-down, past_slots_in-zero}
use Rattle.run_rows.specs.Rows.{past_slots_in, slot_in}
use Rattle.ttp_world.specs.Diary.{begins_stint}
use Rattle.ttp_world.specs.declared.medl.Medl.{Medl}
use Rattle.ttp_world.specs.declared.script.Script.{Script}

-- one step back: on, or here, or to the node on whose frame node x joined
abbrev pub step_by : Bool → Option ℕ → RunSlot → ℕ → Spot → (ℕ → Spot) → Spot
step_by speaks from s x on rest = elim speaks [
  | false ↦ on
  | true ↦ elim from [
    | None ↦ node_spot x s
    | Some p ↦ elim (is_started (entry_in_slot p s)) [ true ↦ node_spot p s | false ↦ rest p ]
  ]
]

abbrev pub or_rest : Bool → Spot → Spot → Spot
or_rest started spot rest = elim started [ true ↦ spot | false ↦ rest ]

-- Said.

abbrev said_step : Medl → Script → ℕ → ℕ → ℕ → Bool → Option ℕ → Spot
said_step list script at x j speaks from =
    step_by speaks from (slot_in list script at) x (said x j (past_slots_in list script at))
    (λ p. said p j (past_slots_in list script at))

said-down : (list : Medl) (script : Script) (slot x j : ℕ) → 0 < slot
    → said x j (past_slots_in list script slot)
    ≡ said_step list script (slot - 1) x j (speaks_of x j (slot_in list script (slot - 1)))
    (joined_from x (slot_in list script (slot - 1)))
said-down list script slot x j some = ap (said x j) (past_slots_in-down list script slot some)

pub said-none : (list : Medl) (script : Script) (slot x j : ℕ) → slot ≡ 0
    → said x j (past_slots_in list script slot) ≡ record { slot = 0; node = x }
said-none list script slot x j none =
    ap (said x j) (ap (past_slots_in list script) none ∙ past_slots_in-zero list script)

pub said-on : (list : Medl) (script : Script) (slot x j : ℕ) → 0 < slot
    → speaks_of x j (slot_in list script (slot - 1)) ≡ false
    → said x j (past_slots_in list script slot) ≡ said x j (past_slots_in list script (slot - 1))
said-on list script slot x j some silent =
    said-down list script slot x j some
    ∙ ap (λ (b : Bool). said_step list script (slot - 1) x j b (joined_from x (slot_in list script (slot - 1)))) silent

pub said-here : (list : Medl) (script : Script) (slot x j : ℕ) → 0 < slot
    → speaks_of x j (slot_in list script (slot - 1)) ≡ true
    → joined_from x (slot_in list script (slot - 1)) ≡ None
    → said x j (past_slots_in list script slot) ≡ record { slot = slot - 1; node = x }
said-here list script slot x j some speaks from =
    said-down list script slot x j some
    ∙ (λ i. said_step list script (slot - 1) x j (speaks i) (from i))
    ∙ spot-in list script (slot - 1) x

pub said-started : (list : Medl) (script : Script) (slot x j p : ℕ) → 0 < slot
    → speaks_of x j (slot_in list script (slot - 1)) ≡ true
    → joined_from x (slot_in list script (slot - 1)) ≡ Some p
    → is_started (entry_in_slot p (slot_in list script (slot - 1))) ≡ true
    → said x j (past_slots_in list script slot) ≡ record { slot = slot - 1; node = p }
said-started list script slot x j p some speaks from started =
    said-down list script slot x j some
    ∙ (λ i. said_step list script (slot - 1) x j (speaks i) (from i))
    ∙ ap (λ (b : Bool). or_rest b (node_spot p (slot_in list script (slot - 1)))
    (said p j (past_slots_in list script (slot - 1)))) started
    ∙ spot-in list script (slot - 1) p

pub said-from : (list : Medl) (script : Script) (slot x j p : ℕ) → 0 < slot
    → speaks_of x j (slot_in list script (slot - 1)) ≡ true
    → joined_from x (slot_in list script (slot - 1)) ≡ Some p
    → is_started (entry_in_slot p (slot_in list script (slot - 1))) ≡ false
    → said x j (past_slots_in list script slot) ≡ said p j (past_slots_in list script (slot - 1))
said-from list script slot x j p some speaks from started =
    said-down list script slot x j some
    ∙ (λ i. said_step list script (slot - 1) x j (speaks i) (from i))
    ∙ ap (λ (b : Bool). or_rest b (node_spot p (slot_in list script (slot - 1)))
    (said p j (past_slots_in list script (slot - 1)))) started

-- Root.

abbrev root_step : Medl → Script → ℕ → ℕ → Bool → Option ℕ → Spot
root_step list script at x begins from =
    step_by begins from (slot_in list script at) x (root x (past_slots_in list script at))
    (λ p. root p (past_slots_in list script at))

root-down : (list : Medl) (script : Script) (slot x : ℕ) → 0 < slot
    → root x (past_slots_in list script slot)
    ≡ root_step list script (slot - 1) x (begins_stint (entry_in_slot x (slot_in list script (slot - 1))))
    (joined_from x (slot_in list script (slot - 1)))
root-down list script slot x some = ap (root x) (past_slots_in-down list script slot some)

pub root-none : (list : Medl) (script : Script) (slot x : ℕ) → slot ≡ 0
    → root x (past_slots_in list script slot) ≡ record { slot = 0; node = x }
root-none list script slot x none =
    ap (root x) (ap (past_slots_in list script) none ∙ past_slots_in-zero list script)

pub root-on : (list : Medl) (script : Script) (slot x : ℕ) → 0 < slot
    → begins_stint (entry_in_slot x (slot_in list script (slot - 1))) ≡ false
    → root x (past_slots_in list script slot) ≡ root x (past_slots_in list script (slot - 1))
root-on list script slot x some other =
    root-down list script slot x some
    ∙ ap (λ (b : Bool). root_step list script (slot - 1) x b (joined_from x (slot_in list script (slot - 1)))) other

pub root-here : (list : Medl) (script : Script) (slot x : ℕ) → 0 < slot
    → begins_stint (entry_in_slot x (slot_in list script (slot - 1))) ≡ true
    → joined_from x (slot_in list script (slot - 1)) ≡ None
    → root x (past_slots_in list script slot) ≡ record { slot = slot - 1; node = x }
root-here list script slot x some begins from =
    root-down list script slot x some
    ∙ (λ i. root_step list script (slot - 1) x (begins i) (from i))
    ∙ spot-in list script (slot - 1) x

pub root-started : (list : Medl) (script : Script) (slot x p : ℕ) → 0 < slot
    → begins_stint (entry_in_slot x (slot_in list script (slot - 1))) ≡ true
    → joined_from x (slot_in list script (slot - 1)) ≡ Some p
    → is_started (entry_in_slot p (slot_in list script (slot - 1))) ≡ true
    → root x (past_slots_in list script slot) ≡ record { slot = slot - 1; node = p }
root-started list script slot x p some begins from started =
    root-down list script slot x some
    ∙ (λ i. root_step list script (slot - 1) x (begins i) (from i))
    ∙ ap (λ (b : Bool). or_rest b (node_spot p (slot_in list script (slot - 1)))
    (root p (past_slots_in list script (slot - 1)))) started
    ∙ spot-in list script (slot - 1) p

pub root-from : (list : Medl) (script : Script) (slot x p : ℕ) → 0 < slot
    → begins_stint (entry_in_slot x (slot_in list script (slot - 1))) ≡ true
    → joined_from x (slot_in list script (slot - 1)) ≡ Some p
    → is_started (entry_in_slot p (slot_in list script (slot - 1))) ≡ false
    → root x (past_slots_in list script slot) ≡ root p (past_slots_in list script (slot - 1))
root-from list script slot x p some begins from started =
    root-down list script slot x some
    ∙ (λ i. root_step list script (slot - 1) x (begins i) (from i))
    ∙ ap (λ (b : Bool). or_rest b (node_spot p (slot_in list script (slot - 1)))
    (root p (past_slots_in list script (slot - 1)))) started
