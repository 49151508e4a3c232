-- The invariant of a world's nodes after a turn of a plan, and what a turn is.
use Rattle.std.specs.Prelude.{◌≡◌, ℕ, suc, ◌+◌, ◌<◌, ◌≤◌, false, true, ◌∷◌, length, IsTrue}
use Rattle.ttp_world.specs.declared.medl.Medl.{Medl}
use Rattle.ttp_world.specs.declared.script.Script.{Script}
use Rattle.ttp_world.specs.BackSafety.{has_sent_in_stint, has_left_since_arm}
use Rattle.ttp_world.specs.Diary.{History, diary_of}
use Rattle.ttp_world.specs.Hypothesis.{ClusterStart}
use Rattle.ttp_world.specs.Legal.{IsLegal}
use Rattle.ttp_world.specs.Medl.{IsValid}
use Rattle.ttp_world.specs.Safety.{has_ever_sent}
use Rattle.ttp_world.specs.Script.{is_armed, IsValidScript}
use Rattle.ttp_world.specs.World.{SlotNumbers, Numbers, node_past, slot_after, world}
use Rattle.safety_laws.specs.Plan.{FaultPlan, is_armed_by, enters}
use Rattle.safety_laws.specs.Fates.{fate_of, is_sound_after, is_lost}
use Rattle.safety_laws.specs.Kept.{FollowsPlan}
use Rattle.safety_laws.specs.Ledger.{ledger_of}
use Rattle.safety_laws.specs.ByFate.{is_there, IsByFate}
use Rattle.safety_laws.specs.ClocksHold.{ClocksHold}

-- each node of a world is after a turn what its fate says
pub record HoldsAfter (list : Medl) (script : Script) (plan : FaultPlan) (turn : ℕ) (history : History) : Type 0 where
  pub nodes : (k : ℕ) → k < length list.slots
      → IsByFate list plan turn k (node_past list script history k) (fate_of plan turn k)
  -- a sound node has started or sent in its stint only where it has had a slot since it began,
  pub sent : (k : ℕ) → k < length list.slots → is_sound_after plan turn k ≡ true
      → IsTrue (has_sent_in_stint (diary_of history k)) → (ledger_of plan turn k).own ≡ true
  -- and one that never entered, at all
  pub ever_sent : (k : ℕ) → k < length list.slots → is_sound_after plan turn k ≡ true
      → ((slot : ℕ) → slot ≤ turn → enters plan slot k ≡ false)
      → IsTrue (has_ever_sent (diary_of history k)) → (ledger_of plan turn k).own ≡ true
  -- a node that is sound, or listens again, has not left since it was armed last, or at all
  pub stay : (k : ℕ) → k < length list.slots → is_there (fate_of plan turn k) ≡ true
      → has_left_since_arm script history k ≡ false

-- a script follows a plan from a start on, and arms a lost node where the plan does
pub record IsPlannedRun (list : Medl) (script : Script) (start : ClusterStart) (plan : FaultPlan) : Type 0 where
  pub valid : IsValid list
  pub script_valid : IsValidScript list script
  pub follows : FollowsPlan list script start plan
  pub arms : (k turn : ℕ) → k < length list.slots → is_lost (fate_of plan turn k) ≡ true
      → is_armed script k (start.slot + suc turn) ≡ is_armed_by plan (suc turn) k

-- the turn after some others, in a world whose numbers are legal
pub record IsTurn (list : Medl) (script : Script) (start : ClusterStart) (plan : FaultPlan) (turn : ℕ)
    (new : SlotNumbers)
    (numbers : Numbers) : Type 0 where
  pub planned : IsPlannedRun list script start plan
  pub legal : IsLegal list script (new ∷ numbers)
  pub number : length numbers ≡ start.slot + suc turn
  pub within : start.slot + suc turn < script.slots
  pub before : HoldsAfter list script plan turn (world list script numbers)
  pub clocks : ClocksHold list plan (suc turn) (slot_after list script (world list script numbers))
