-- What a slot is by the fate of the node whose slot it is.
use Rattle.std.specs.Prelude.{◌≡◌, ◌≢◌, ℕ, suc, ◌+◌, Bool, true, false, ◌==◌, Some, None, if◌then◌else◌}
use Rattle.safety_laws.specs.Plan.{Change, Sending, Receiving, Jumping, Incident, FaultPlan, sender, incident_at}
use Rattle.safety_laws.specs.Fates.{Fate, Sound, Falling, Fallen, fate_of, is_sound_after, may_stay}

-- what a slot is by the fate of its node
pub data SlotKind : Type 0 where
  -- its node sends nothing: it was never on, or it was lost and its second own slot since then is over, whether it
  -- listens again or not
  Idle : SlotKind
  -- its node is sound
  Good : SlotKind
  -- its node is lost in it
  Lost : (change : Change) → SlotKind
  -- it is the first own slot of a node that was lost before
  Shown : (change : Change) (since : ℕ) → SlotKind
  -- it is the second
  Last : (change : Change) (since shown : ℕ) → SlotKind

-- that of a slot of a node that was lost in slot `since`, and whose first own slot from there on is `shown`
abbrev pub kind_if_lost : ℕ → ℕ → Change → ℕ → ℕ → SlotKind
kind_if_lost nodes slot change since shown =
    if since == slot then Lost change
    else (if shown == slot then Shown change since
    else (if shown + nodes == slot then Last change since shown else Idle))

-- that of a slot by the fate of its node after it
abbrev pub kind_by_fate : ℕ → ℕ → Fate → SlotKind
kind_by_fate nodes slot Sound = Good
kind_by_fate nodes slot (Fallen change since shown) = kind_if_lost nodes slot change since shown
kind_by_fate nodes slot _ = Idle

-- that of a slot of a plan, counted from the start
abbrev pub slot_kind : FaultPlan → ℕ → SlotKind
slot_kind plan slot = kind_by_fate plan.nodes slot (fate_of plan slot (sender plan slot))

-- its node's frame is one of the group's
abbrev pub is_good_kind : SlotKind → Bool
is_good_kind Good = true
is_good_kind _ = false

-- it is the first own slot of a lost node
abbrev pub is_first_kind : SlotKind → Bool
is_first_kind (Lost change) = true
is_first_kind (Shown change since) = true
is_first_kind _ = false

-- What each kind tells of the slot after this one, by the fates after this one. An incident of another node than the
-- sender comes only where the sender is sound or sends nothing.

-- of a slot in which nothing is sent: its node was not sound, and an incident in it is the jump of another node
pub record IsIdle (plan : FaultPlan) (slot : ℕ) : Type 0 where
  pub was : is_sound_after plan slot (sender plan (suc slot)) ≡ false
  pub left : may_stay plan.nodes slot (fate_of plan slot (sender plan (suc slot))) ≡ false
  -- nobody loses a frame
  pub jumps : (incident : Incident) → incident_at plan (suc slot) ≡ Some incident
      → (incident.change ≡ Jumping) × (incident.node ≢ sender plan (suc slot))

-- of a good slot: its node stays sound, and an incident in it is of another node, and not by sending
pub record IsGoodAfter (plan : FaultPlan) (slot : ℕ) : Type 0 where
  pub was : is_sound_after plan slot (sender plan (suc slot)) ≡ true
  pub is : is_sound_after plan (suc slot) (sender plan (suc slot)) ≡ true
  pub others : (incident : Incident) → incident_at plan (suc slot) ≡ Some incident
      → (incident.change ≢ Sending) × (incident.node ≢ sender plan (suc slot))

-- of a slot in which its node is lost, which was sound: by sending or by a jump
pub record IsLostAfter (plan : FaultPlan) (slot : ℕ) (change : Change) : Type 0 where
  pub was : is_sound_after plan slot (sender plan (suc slot)) ≡ true
  pub incident : Incident
  pub found : incident_at plan (suc slot) ≡ Some incident
  pub node : incident.node ≡ sender plan (suc slot)
  pub how : incident.change ≡ change
  pub not_deaf : change ≢ Receiving

-- of the first own slot of a node that was lost before: nobody is lost in it
pub record IsShownAfter (plan : FaultPlan) (slot : ℕ) (change : Change) (since : ℕ) : Type 0 where
  pub was : fate_of plan slot (sender plan (suc slot)) ≡ Falling change since
  pub quiet : incident_at plan (suc slot) ≡ None
  pub not_silent : change ≢ Sending

-- of its second, a round later: nobody is lost in it
pub record IsLastAfter (plan : FaultPlan) (slot : ℕ) (change : Change) (since shown : ℕ) : Type 0 where
  pub was : fate_of plan slot (sender plan (suc slot)) ≡ Fallen change since shown
  pub round : shown + plan.nodes ≡ suc slot
  pub quiet : incident_at plan (suc slot) ≡ None

-- what the kind of the slot after this one tells
abbrev pub IsKindAfter : FaultPlan → ℕ → SlotKind → Type 0
IsKindAfter plan slot Idle = IsIdle plan slot
IsKindAfter plan slot Good = IsGoodAfter plan slot
IsKindAfter plan slot (Lost change) = IsLostAfter plan slot change
IsKindAfter plan slot (Shown change since) = IsShownAfter plan slot change since
IsKindAfter plan slot (Last change since shown) = IsLastAfter plan slot change since shown
