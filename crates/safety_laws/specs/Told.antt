-- What fates and ledgers tell of the slots of a good plan.
use Rattle.std.specs.Prelude.{◌≡◌, ◌≢◌, ℕ, suc, ◌+◌, ◌-◌, ◌*◌, ◌<◌, ◌≤◌, true, false, Some, ◌⊎◌}
use Rattle.std.specs.List.{Contains}
use Rattle.safety_laws.specs.Plan.{Change, Sending, Incident, Return, FaultPlan, sender, incident_at, enters}
use Rattle.ttp_base.specs.NodeSet.{has_node}
use Rattle.safety_laws.specs.Fates.{Fate, Absent, Sound, Falling, Fallen, Listening, is_sound_after, is_good_slot}
use Rattle.safety_laws.specs.Fates.{is_first_slot, tally}
use Rattle.safety_laws.specs.Ledger.{Ledger, planned_members, ledger_of}

-- an incident of a slot loses a node, two rounds or more after the start
pub record IsLossOf (plan : FaultPlan) (k : ℕ) (change : Change) (since : ℕ) : Type 0 where
  pub incident : Incident
  pub found : incident_at plan since ≡ Some incident
  pub node : incident.node ≡ k
  pub how : incident.change ≡ change
  pub late : 2 * plan.nodes ≤ since

-- no slot of a falling node has come since it was lost, and one comes before a round is over
pub record IsFalling (plan : FaultPlan) (slot k : ℕ) (change : Change) (since : ℕ) : Type 0 where
  pub loss : IsLossOf plan k change since
  pub from : since ≤ slot
  pub soon : suc slot < since + plan.nodes
  pub unshown : (turn : ℕ) → since ≤ turn → turn ≤ slot → sender plan turn ≢ k

-- the first own slot of a fallen node came within a round, and at once where it was lost as a sender
pub record IsFallen (plan : FaultPlan) (slot k : ℕ) (change : Change) (since shown : ℕ) : Type 0 where
  pub loss : IsLossOf plan k change since
  pub from : (since ≤ shown) × (shown ≤ slot)
  pub soon : shown < since + plan.nodes
  pub own : sender plan shown ≡ k
  pub sending : change ≡ Sending → shown ≡ since

-- a listening node was armed, and the slot in which it enters is still to come
pub record IsListening (plan : FaultPlan) (slot k since : ℕ) : Type 0 where
  pub return : Return
  pub among : Contains plan.returns return
  pub node : return.node ≡ k
  pub armed : return.armed ≡ since
  pub from : since ≤ slot
  pub waits : slot < plan.slots → slot < return.entered

-- what the fate of node k tells after a slot
abbrev pub IsTold : FaultPlan → ℕ → ℕ → Fate → Type 0
IsTold plan slot k Absent = Unit {0}
IsTold plan slot k Sound = Unit {0}
IsTold plan slot k (Falling change since) = IsFalling plan slot k change since
IsTold plan slot k (Fallen change since shown) = IsFallen plan slot k change since shown
IsTold plan slot k (Listening since) = IsListening plan slot k since

-- what node k's ledger tells after a slot: all its slots up to then come at its base or before, less than a round ago;
-- and where it had none since it began, its base is the start or the slot of its entry
pub record IsLedgerOf (plan : FaultPlan) (slot k : ℕ) (ledger : Ledger) : Type 0 where
  pub within : ledger.base ≤ slot
  pub near : slot < ledger.base + plan.nodes
  pub owned : ledger.own ≡ true → sender plan ledger.base ≡ k
  pub began : ledger.own ≡ false → (ledger.base ≡ 0) ⊎ (enters plan ledger.base k ≡ true)
  pub newest : (turn : ℕ) → turn ≤ slot → sender plan turn ≡ k → turn ≤ ledger.base
  pub seen : ledger.seen ≡ tally (is_good_slot plan) (suc ledger.base) (slot - ledger.base)
  pub bad : ledger.bad ≡ tally (is_first_slot plan) (suc ledger.base) (slot - ledger.base)

-- the sender whose frame a falling receiver lost is sound and a member, and had no other slot since
pub record IsSenderLost (plan : FaultPlan) (slot since : ℕ) : Type 0 where
  pub sound : is_sound_after plan slot (sender plan since) ≡ true
  pub member : has_node (planned_members plan slot) (sender plan since) ≡ true
  pub own : (ledger_of plan slot (sender plan since)).own ≡ true
  pub base : (ledger_of plan slot (sender plan since)).base ≡ since
