-- What a node is after a turn of a plan, by its fate.
--
-- A turn is a slot, counted from the start as a plan counts.
use Rattle.std.specs.Prelude.{◌≡◌, Bool, ℕ, suc, ◌+◌, ◌-◌, ◌*◌, ◌<◌, ◌≤◌, false}
use Rattle.std.specs.Prelude.{true, length, if◌then◌else◌, ◌⊎◌, IsTrue}
use Rattle.ttp_base.specs.NodeSet.{has_node}
use Rattle.ttp_world.specs.declared.medl.Medl.{Medl}
use Rattle.ttp_world.specs.declared.node.Ack.{Ack}
use Rattle.ttp_world.specs.declared.node.Ack.TheVariants as ack
use Rattle.ttp_world.specs.declared.node.Phase.TheVariants as phase
use Rattle.ttp_world.specs.Acknowledgement.{is_open, is_doubt}
use Rattle.ttp_world.specs.Past.{NodePast}
use Rattle.safety_laws.specs.Plan.{Change, Receiving, FaultPlan, sender}
use Rattle.safety_laws.specs.Fates.{Fate, Absent, Sound, Falling, Fallen, Listening, fate_of, is_good_slot}
use Rattle.safety_laws.specs.Ledger.{Ledger, planned_members, ledger_of}
use Rattle.safety_laws.specs.Places.{planned_place}
use Rattle.safety_laws.specs.Groups.{IsUnanswered, HoldsGroup}

-- Sound nodes.

-- 1 for a node that doubts another one, and else 0
abbrev pub doubts : Ack → ℕ
doubts a = if is_doubt a then 1 else 0

-- what a node counted and sent is what its ledger says
pub record IsCounted (ledger : Ledger) (past : NodePast) : Type 0 where
  -- it accepted one frame, and that of each good slot since then
  pub accepted : past.accepted ≡ suc ledger.seen
  -- it rejected first own slots of lost nodes alone, and one that it doubts is not rejected yet
  pub rejected : past.rejected + doubts past.ack ≤ ledger.bad
  -- its own frame is acknowledged unless no good slot came since
  pub opened : IsTrue (is_open past.ack) → (ledger.own ≡ true) × (ledger.seen ≡ 0)
  -- its newest own frame is a cold start only where that was the start
  pub cold_start : IsTrue past.cold_start → (ledger.own ≡ true) × (ledger.base ≡ 0)

-- a sound node: it stands where the plan stands, and holds the plan's members
pub record IsSoundAt (list : Medl) (plan : FaultPlan) (turn k : ℕ) (past : NodePast) : Type 0 where
  pub phase : past.phase ≡ phase.Active
  pub place : past.place ≡ planned_place list plan turn
  -- and, in doubt, the node that it doubts
  pub group : HoldsGroup list k (planned_members plan turn) past
  pub counted : IsCounted (ledger_of plan turn k) past
  -- which lost this node's newest frame as a receiver, and has had a slot of its own since
  pub doubted : (y : ℕ) → past.ack ≡ ack.Doubt y
      → (shown : ℕ) × (fate_of plan turn y ≡ Fallen Receiving (ledger_of plan turn k).base shown)
  -- after its own slot its frame waits for an answer
  pub fresh : sender plan turn ≡ k → past.ack ≡ ack.First

-- Lost nodes.

-- a lost node before its first own slot
pub record IsFallingAt (list : Medl) (plan : FaultPlan) (turn k : ℕ) (change : Change) (since : ℕ) (past : NodePast)
    : Type 0 where
  pub phase : past.phase ≡ phase.Active
  pub place : past.place ≡ planned_place list plan turn
  pub later : past.cold_start ≡ false
  -- a receiver lacks the sender whose frame it lost
  pub lacks : change ≡ Receiving → has_node past.members (sender plan since) ≡ false
  -- a node that was lost in the slot after its own has no answer to its frame
  pub waits : (before : ℕ) → since ≡ suc before → sender plan before ≡ k → IsUnanswered k past.ack

-- from its first own slot to the last before its second: its own frame is not answered
pub record IsFallenAt (list : Medl) (plan : FaultPlan) (turn k since shown : ℕ) (past : NodePast) : Type 0 where
  pub phase : past.phase ≡ phase.Active
  pub place : past.place ≡ planned_place list plan turn
  pub later : past.cold_start ≡ false
  pub unanswered : IsUnanswered k past.ack
  pub soon : turn < shown + plan.nodes
  -- that first slot is not the last of the round since it was lost: there it leaves
  pub early : suc shown < since + plan.nodes

-- A node that listens again.

-- it starts only after two rounds of silence, and counted no more silent slots than there were since it was armed, and
-- since each good slot that came from then on
pub record IsListeningAt (list : Medl) (plan : FaultPlan) (turn k since : ℕ) (past : NodePast) : Type 0 where
  pub phase : past.phase ≡ phase.Listening
  pub limit : past.limit ≡ 2 * length list.slots + k
  pub silent : past.silent_slots ≤ suc turn - since
  pub broken : (good : ℕ) → since ≤ good → good ≤ turn → is_good_slot plan good ≡ true
      → past.silent_slots + good ≤ turn

-- All.

-- sound, or listening again
abbrev pub is_there : Fate → Bool
is_there Sound = true
is_there (Listening since) = true
is_there _ = false

-- an absent node is off; a receiver that was lost may leave before its first own slot, and each lost node has left when
-- a round is over since that slot; one that was armed then listens until it enters
abbrev pub IsByFate : Medl → FaultPlan → ℕ → ℕ → NodePast → Fate → Type 0
IsByFate list plan turn k past Absent = past.phase ≡ phase.Off
IsByFate list plan turn k past Sound = IsSoundAt list plan turn k past
IsByFate list plan turn k past (Falling change since) =
    ((past.phase ≡ phase.Left) × (change ≡ Receiving)) ⊎ IsFallingAt list plan turn k change since past
IsByFate list plan turn k past (Fallen change since shown) =
    (past.phase ≡ phase.Left) ⊎ IsFallenAt list plan turn k since shown past
IsByFate list plan turn k past (Listening since) = IsListeningAt list plan turn k since past
