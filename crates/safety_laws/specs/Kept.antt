-- What a script does to a cluster that follows a plan of faults, and that one does that keeps the single-fault
-- hypothesis.
use Rattle.std.specs.Prelude.{◌≡◌, ◌≢◌, ℕ, ◌+◌, ◌-◌, ◌<◌, ◌≤◌, ◌≤ℤ◌, ◌⊎◌, true, false, [], length, pos, Some, None}
use Rattle.std.specs.Prelude.{IsTrue}
use Rattle.std.specs.List.{AllByRecursion, Contains}
use Rattle.ttp_base.specs.NodeSet.{has_node}
use Rattle.ttp_world.specs.declared.medl.Medl.{Medl}
use Rattle.ttp_world.specs.declared.script.Channel.{Channel}
use Rattle.ttp_world.specs.declared.script.Script.{Script}
use Rattle.ttp_world.specs.Hypothesis.{ClusterStart, clocks_broken, is_within_bound, needed, is_far_jump, start_of}
use Rattle.ttp_world.specs.Hypothesis.{loses}
use Rattle.ttp_world.specs.Hypothesis.{faulty_nodes_after, is_correct_after}
use Rattle.ttp_world.specs.declared.medl.Kind.{Kind}
use Rattle.ttp_world.specs.Medl.{plan_at, kind_at}
use Rattle.ttp_world.specs.Returning.{carries_place, needed_back}
use Rattle.ttp_world.specs.Script.{is_ever_on, is_on, is_armed, drift_of, reading_error, has_jump, jump_of}
use Rattle.ttp_world.specs.Script.{flipped_bits}
use Rattle.ttp_world.specs.Starts.{StartsAlone}
use Rattle.safety_laws.specs.Plan.{Sending, Receiving, Jumping, Incident, Return, FaultPlan, sender, incident_at}
use Rattle.safety_laws.specs.Plan.{fault_plan_of}
use Rattle.safety_laws.specs.Fates.{Listening, fate_of, is_sound_after, is_good_slot, lost_since}
use Rattle.safety_laws.specs.GoodPlan.{IsGoodPlan}
use Rattle.safety_laws.specs.Places.{planned_place}

-- Clocks, in the whole run.
pub record IsWithinBounds (list : Medl) (script : Script) : Type 0 where
  pub clocks : clocks_broken list script ≡ None
  pub drifts : (k : ℕ) → k < length list.slots → IsTrue (is_within_bound list.drift (drift_of script k))
  pub errors : (k slot : ℕ) → k < length list.slots → slot < script.slots
      → IsTrue (is_within_bound list.error (reading_error script k slot))
  pub window : needed list ≤ℤ list.window
  -- a clock that jumps goes far, and jumps once; one that does not stays
  pub jumps : (k slot : ℕ) → has_jump script k slot ≡ true → IsTrue (is_far_jump list (jump_of script k slot))
  pub once : (k slot later : ℕ) → slot < later → has_jump script k slot ≡ true → has_jump script k later ≡ false
  pub still : (k slot : ℕ) → has_jump script k slot ≡ false → jump_of script k slot ≡ pos 0

-- Who hears whom in a slot from the start on, and whose clock jumps.
pub record IsHeardByPlan (script : Script) (start : ClusterStart) (plan : FaultPlan) (slot : ℕ) : Type 0 where
  -- the frame of a sound sender reaches each other sound node undisturbed on some channel
  pub heard : (r : ℕ) → r < plan.nodes → r ≢ sender plan slot → is_good_slot plan slot ≡ true
      → is_sound_after plan slot r ≡ true → loses script (sender plan slot) (start.slot + slot) r ≡ false
  -- and each that listens
  pub listens : (r since : ℕ) → r < plan.nodes → is_good_slot plan slot ≡ true → fate_of plan slot r ≡ Listening since
      → loses script (sender plan slot) (start.slot + slot) r ≡ false
  -- that of a sender that is lost by it reaches none
  pub unheard : (r : ℕ) (incident : Incident) → r < plan.nodes → incident_at plan slot ≡ Some incident
      → incident.change ≡ Sending → is_sound_after plan slot r ≡ true
      → loses script (sender plan slot) (start.slot + slot) r ≡ true
  -- a receiver that is lost by it is deaf to it
  pub deaf : (incident : Incident) → incident_at plan slot ≡ Some incident → incident.change ≡ Receiving
      → loses script (sender plan slot) (start.slot + slot) incident.node ≡ true
  -- no sound node's clock jumps, and that of a node that is lost by it does
  pub still : (k : ℕ) → k < plan.nodes → is_sound_after plan slot k ≡ true
      → has_jump script k (start.slot + slot) ≡ false
  pub jumps : (incident : Incident) → incident_at plan slot ≡ Some incident → incident.change ≡ Jumping
      → has_jump script incident.node (start.slot + slot) ≡ true

-- the kind of the frame of a slot
abbrev pub kind_in : Medl → FaultPlan → ℕ → Kind
kind_in list plan slot = kind_at list (planned_place list plan slot).round (planned_place list plan slot).slot

-- A node that returns enters by the first frame of a sound node that it can join on, from the slot on from which it
-- listens.
pub record IsOffered (list : Medl) (plan : FaultPlan) (r : Return) : Type 0 where
  pub place : r.entered < plan.slots → carries_place (kind_in list plan r.entered) ≡ true
  pub none : (slot : ℕ) → r.armed ≤ slot → slot < r.entered → slot < plan.slots → is_good_slot plan slot ≡ true
      → carries_place (kind_in list plan slot) ≡ false

-- A script does from a start on what a good plan says: all that an induction on members asks of the two.
pub record FollowsPlan (list : Medl) (script : Script) (start : ClusterStart) (plan : FaultPlan) : Type 0 where
  pub good : IsGoodPlan plan
  -- no bit is flipped in the whole run
  pub flips : (k slot : ℕ) (c : Channel) → flipped_bits script k c slot ≡ []
  -- the plan is of this list and run
  pub nodes : plan.nodes ≡ length list.slots
  pub starter : plan.starter ≡ start.node
  pub slots : plan.slots ≡ script.slots - start.slot
  pub measured : (k : ℕ) → k < length list.slots → has_node plan.measured k ≡ (plan_at list k).sync
  -- its nodes are those that are on
  pub on : (slot k : ℕ) → k < length list.slots → has_node plan.begin k ≡ is_on script k (start.slot + slot)
  pub hearing : (slot : ℕ) → start.slot + slot < script.slots → IsHeardByPlan script start plan slot
  pub returns : (r : Return) → Contains plan.returns r → IsOffered list plan r
  -- the clocks of nodes that are sound after a slot do not jump in it
  pub clocks : (slot k : ℕ) → k < length list.slots → start.slot + slot < script.slots
      → is_sound_after plan slot k ≡ true
      → jump_of script k (start.slot + slot) ≡ pos 0

-- It does so, and keeps the list's bounds on clocks: all that an induction on members and clocks asks.
pub record FollowsWithin (list : Medl) (script : Script) (start : ClusterStart) (plan : FaultPlan) : Type 0 where
  pub planned : FollowsPlan list script start plan
  pub bounds : IsWithinBounds list script
  -- the window is wider where a node returns
  pub window : (plan.returns ≡ []) ⊎ (needed_back list ≤ℤ list.window)

-- The plan is that of the script's faulty nodes: none of them returns, the sound nodes after a slot of the run are the
-- correct ones, and each faulty node is lost in the slot in which it became faulty.
pub record IsPlanOfFaults (list : Medl) (script : Script) (start : ClusterStart) (plan : FaultPlan) : Type 0 where
  pub returns : plan.returns ≡ []
  pub sound : (slot k : ℕ) → k < length list.slots → start.slot + slot < script.slots
      → is_sound_after plan slot k ≡ is_correct_after list script (start.slot + slot) k
  pub faulty : (slot : ℕ) → start.slot + slot < script.slots
      → AllByRecursion (λ f. lost_since (fate_of plan slot f.node) ≡ Some (f.slot - start.slot))
      (faulty_nodes_after list script (start.slot + slot))

-- All of it, for a script whose test says that its cluster starts in a slot.
pub record KeepsByPlan (list : Medl) (script : Script) (slot : ℕ) : Type 0 where
  pub start : ClusterStart
  pub started : start_of list script ≡ Some start
  pub from : start.slot ≡ slot
  -- one node starts alone, and all that are ever on are on by then
  pub alone : StartsAlone list script start
  pub on : (k : ℕ) → k < length list.slots → is_ever_on script k ≡ true → is_on script k start.slot ≡ true
  pub arms : (k slot : ℕ) → is_armed script k slot ≡ false
  pub follows : FollowsWithin list script start (fault_plan_of list script start)
  pub faults : IsPlanOfFaults list script start (fault_plan_of list script start)
  -- each other node that is on then hears the cold start undisturbed on some channel
  pub heard : (k : ℕ) → start.slot < script.slots → k < length list.slots → k ≢ start.node
      → is_on script k start.slot ≡ true → loses script start.node start.slot k ≡ false
