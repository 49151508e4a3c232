-- A fault that changes no entry of the one slot in which it stands: the run goes on as without it.
use Rattle.std.specs.Prelude.{◌≡◌, ℕ, ◌+◌, ◌<◌, ◌≤◌, ◌==◌, ◌&&◌, Bool, true, false, List, length}
use Rattle.ttp_world.specs.declared.medl.Medl.{Medl}
use Rattle.ttp_world.specs.declared.node.Entry.{Entry}
use Rattle.ttp_world.specs.declared.node.Entry.TheVariants as entry
use Rattle.ttp_world.specs.declared.node.NodeState.{NodeState}
use Rattle.ttp_world.specs.declared.script.Event.{Event}
use Rattle.ttp_world.specs.declared.script.Event.TheVariants as event
use Rattle.ttp_world.specs.declared.script.Script.{Script}
use Rattle.ttp_world.specs.Diary.{History, diary_of, newest_entry}
use Rattle.campaign.specs.Cost.{memberships, has_two}
use Rattle.campaign.specs.Lines.{summary}
use Rattle.campaign.specs.Tried.{row_of}
use Rattle.ttp_world.specs.ZerosWorld.{zeros_world}
use Rattle.run_costs.specs.Standing.{IsSeenAfter}
use Rattle.run_costs.specs.declared.seen_run.SeenRun.{SeenRun}
use Rattle.fault_runs.specs.declared.whole.WholeRun.{WholeRun}

-- a node listened in a slot and did not join
abbrev pub is_waiting : Entry → Bool
is_waiting entry.Waited = true
is_waiting _ = false

-- a node left in a slot
abbrev pub is_left_entry : Entry → Bool
is_left_entry (entry.Left reason peer) = true
is_left_entry _ = false

abbrev pub has_just_left : NodeState → Bool
has_just_left state = is_left_entry state.entry

-- an event loses frames in this slot alone
abbrev pub is_loss_in : ℕ → Event → Bool
is_loss_in slot (event.Send node channels f from to) = (from == slot) && (to == slot)
is_loss_in slot (event.Receive node channels f from to) = (from == slot) && (to == slot)
is_loss_in slot _ = false

-- a node did the same in both slots, and did not wait, so that no silence was counted
pub record IsSameDeed (one other : Entry) : Type 0 where
  pub same : one ≡ other
  pub busy : is_waiting one ≡ false

-- nobody leaves in the newest slot of a history, and the nodes that are active and not in doubt after it hold one
-- membership, or there are none
pub record HasSettledAt (list : Medl) (history : History) : Type 0 where
  pub stay : (k : ℕ) → k < length list.slots → is_left_entry (newest_entry (diary_of history k)) ≡ false
  pub one : has_two (memberships list history (λ k. true)) ≡ false

-- the script's own run is settled from this slot on
abbrev pub IsSettledFrom : Medl → Script → ℕ → Type 0
IsSettledFrom list script settled =
    (t : ℕ) → settled ≤ t → t < script.slots → HasSettledAt list (zeros_world list script (t + 1))

-- what a whole run cost, and from which slot on it is settled
pub record IsWholeRun (list : Medl) (script : Script) (whole : WholeRun) : Type 0 where
  pub cost : whole.cost ≡ (summary list script).cost
  pub settled : IsSettledFrom list script whole.settled

-- the script's own run before a slot, and what each node does in that slot
pub record IsOwnIn (list : Medl) (script : Script) (slot : ℕ) (past : SeenRun) (row : List Entry) : Type 0 where
  pub inside : slot < script.slots
  pub before : IsSeenAfter past list script slot
  pub does : row ≡ row_of (zeros_world list script script.slots) slot
