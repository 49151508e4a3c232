-- What the nodes of a plan note, slot by slot: all that their clocks ask of frames and members.
--
-- A history has its newest slot first, and its length is the number of the slot after it. Slots of a plan are counted
-- from the start.
use Rattle.std.specs.Prelude.{◌≡◌, ◌≢◌, ℕ, zero, suc, ◌+◌, ◌<◌, ◌≤◌, true, false, List, [], ◌∷◌, length}
use Rattle.ttp_world.specs.declared.medl.Medl.{Medl}
use Rattle.ttp_world.specs.declared.node.Entry.{Entry}
use Rattle.ttp_world.specs.declared.node.Entry.TheVariants as entry
use Rattle.ttp_world.specs.declared.script.Script.{Script}
use Rattle.ttp_world.specs.Acknowledgement.{is_correct}
use Rattle.ttp_world.specs.Conduct.{cold_start_cstate}
use Rattle.ttp_world.specs.Diary.{History, entry_of}
use Rattle.ttp_world.specs.Hypothesis.{ClusterStart}
use Rattle.ttp_world.specs.Medl.{IsValid}
use Rattle.precision.specs.Together.{IsIn, BeginsOn, TellsOf, measured}
use Rattle.safety_laws.specs.Plan.{Jumping, FaultPlan, sender, enters}
use Rattle.safety_laws.specs.Fates.{Falling, fate_of, is_sound_after, is_good_slot}
use Rattle.safety_laws.specs.Kept.{FollowsWithin}
use Rattle.safety_laws.specs.Places.{planned_place}

-- a node of the list that is sound after a slot
abbrev pub IsSoundIn : Medl → FaultPlan → ℕ → ℕ → Type 0
IsSoundIn list plan slot k = IsIn list (is_sound_after plan slot) k

-- The start: the starter sends its cold start, and each other node that is sound joins on it.
pub record StartedByPlan (list : Medl) (script : Script) (start : ClusterStart) (plan : FaultPlan) (row : List Entry)
    (history : History) : Type 0 where
  pub number : length history ≡ start.slot
  pub starter : entry_of row start.node ≡ entry.Started
  pub joins : (k : ℕ) → IsSoundIn list plan 0 k → k ≢ start.node
      → entry_of row k
      ≡ entry.Joined start.node (cold_start_cstate start.node) (measured list script history k start.node)

-- by this entry a node is active and notes nothing
abbrev pub NotesNothing : Entry → Type 0
NotesNothing (entry.Judged sender v deviation) = is_correct v ≡ false
NotesNothing _ = ⊥

-- A later slot of the plan, which is that of a row after a history. Where it is good, the entry of each sound node
-- tells of the frame of the slot's sender, or the node enters on it, and in every other slot a sound node notes
-- nothing. Nor does a node whose clock has jumped, until its own slot comes.
pub record NotedInSlot (list : Medl) (script : Script) (plan : FaultPlan) (slot : ℕ) (row : List Entry)
    (history : History)
    : Type 0 where
  pub good : (k : ℕ) → is_good_slot plan slot ≡ true → IsSoundIn list plan slot k → enters plan slot k ≡ false
      → TellsOf list script history (sender plan slot) k (entry_of row k)
  pub begins : (k : ℕ) → k < length list.slots → enters plan slot k ≡ true
      → BeginsOn list script history (sender plan slot) (planned_place list plan slot) k (entry_of row k)
  pub other : (k : ℕ) → is_good_slot plan slot ≡ false → IsSoundIn list plan slot k → NotesNothing (entry_of row k)
  pub jumped : (k since : ℕ) → k < length list.slots → fate_of plan slot k ≡ Falling Jumping since
      → NotesNothing (entry_of row k)

-- each slot up to this one was noted by a plan: the start, and every slot behind it
abbrev pub NotedByPlan : Medl → Script → ClusterStart → FaultPlan → ℕ → History → Type 0
NotedByPlan list script start plan slot [] = ⊥
NotedByPlan list script start plan zero (row ∷ history) = StartedByPlan list script start plan row history
NotedByPlan list script start plan (suc slot) (row ∷ history) =
    NotedByPlan list script start plan slot history × NotedInSlot list script plan (suc slot) row history

-- a script follows a plan within the list's bounds, the nodes noted by it up to this slot, and the run has one more
pub record GoesOnByPlan (list : Medl) (script : Script) (start : ClusterStart) (plan : FaultPlan) (slot : ℕ)
    (history : History) : Type 0 where
  pub valid : IsValid list
  pub follows : FollowsWithin list script start plan
  pub noted : NotedByPlan list script start plan slot history
  pub within : start.slot + suc slot < script.slots

-- no node entered in the round of a slot so far, nor in the round before
abbrev pub IsTight : FaultPlan → ℕ → Type 0
IsTight plan slot = (turn k : ℕ) → turn ≤ slot → enters plan turn k ≡ true → turn + plan.nodes + sender plan slot < slot
