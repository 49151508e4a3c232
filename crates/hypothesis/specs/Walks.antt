-- What a walk over the slots of a run finds of the rules on faults.
use Rattle.std.specs.Prelude.{◌≡◌, ℕ, suc, ◌+◌, ◌-◌, ◌*◌, ◌<◌, min, nat_lt, Bool, false, not, List, [], ◌∷◌, ◌++◌}
use Rattle.std.specs.Prelude.{map, length, reverse, find, Option, Some, None, if◌then◌else◌, refl}
use Rattle.std.specs.List.{range_with_len}
use Rattle.ttp_world.specs.declared.medl.Medl.{Medl}
use Rattle.ttp_world.specs.declared.script.Script.{Script}
use Rattle.ttp_world.specs.Hypothesis.{ClusterStart, FaultyNode, numbers_of, nodes_made, loss_in, is_breaking}
use Rattle.ttp_world.specs.Hypothesis.{jumpers_in, faulty_nodes_in, faulty_nodes_before, breaks_in, first_too_early}
use Rattle.ttp_world.specs.Hypothesis.{has_four_steady}
use Rattle.ttp_world.specs.Returning.{slots_before, faulty_since, faulty_at, joinings, breaks_back_in}
use Rattle.hypothesis.specs.Standing.{HaveSameNodes}
use Rattle.hypothesis.specs.declared.walk.SlotFaults.{SlotFaults}
use Rattle.hypothesis.specs.declared.walk.Walk.{Walk}

-- Courses.

-- some nodes, each faulty since this slot
abbrev pub all_in : ℕ → List ℕ → List FaultyNode
all_in slot ks = map (λ k. record { slot = slot; node = k }) ks

-- what becomes of the nodes of a run, slot by slot
pub record Course : Type 0 where
  -- the nodes that are faulty after the first slots, so many
  pub after : ℕ → List FaultyNode
  -- those that become faulty in a slot, and all that did in the first slots, the newest first
  pub joined : ℕ → List ℕ
  pub all : ℕ → List FaultyNode
  -- the losses of a slot are those of more than one fault
  pub breaks : ℕ → Bool
  pub clear : after 0 ≡ []
  pub none : all 0 ≡ []
  pub next : (slot : ℕ) → all (suc slot) ≡ all_in slot (joined slot) ++ all slot

-- the nodes that a slot makes faulty where these are
abbrev pub made_in : Medl → Script → ClusterStart → ℕ → List FaultyNode → List ℕ
made_in list script start slot before =
    nodes_made (loss_in list script start (numbers_of before) slot) ++ jumpers_in list script (numbers_of before) slot

-- where a node that is faulty stays so
abbrev pub keep_course : Medl → Script → ClusterStart → Course
keep_course list script start = record {
  after = faulty_nodes_before list script start;
  joined = λ slot. made_in list script start slot (faulty_nodes_before list script start slot);
  all = faulty_nodes_before list script start;
  breaks = breaks_in list script start;
  clear = refl;
  none = refl;
  next = λ slot. refl;
}

-- the nodes that become faulty in a slot of a run in which nodes come back
abbrev pub joined_in : Medl → Script → ClusterStart → ℕ → List ℕ
joined_in list script start slot = made_in list script start slot (faulty_at list script start slot)

-- where it may come back
abbrev pub back_course : Medl → Script → ClusterStart → Course
back_course list script start = record {
  after = λ slot. faulty_since (slots_before list script start slot);
  joined = joined_in list script start;
  all = λ slot. joinings (slots_before list script start slot);
  breaks = breaks_back_in list script start;
  clear = refl;
  none = refl;
  next = λ slot. refl;
}

-- Slots.

-- what a slot makes of the nodes that are faulty at its beginning
pub record AreFaultsIn (list : Medl) (script : Script) (start : ClusterStart) (slot : ℕ) (those : List FaultyNode)
    (faults : SlotFaults) : Type 0 where
  pub before : HaveSameNodes faults.before (numbers_of those)
  pub jumped : faults.jumped ≡ jumpers_in list script (numbers_of those) slot
  pub made : faults.made ≡ nodes_made (loss_in list script start (numbers_of those) slot)
  pub faulty : HaveSameNodes faults.faulty
      (numbers_of (faulty_nodes_in list script start slot those ++ those))
  pub count : faults.count ≡ length (made_in list script start slot those)
  pub breaks : faults.breaks ≡ is_breaking (loss_in list script start (numbers_of those) slot)

-- what it does in a course
pub record AreFaultsOf (course : Course) (slot : ℕ) (faults : SlotFaults) : Type 0 where
  pub faulty : HaveSameNodes faults.faulty (numbers_of (course.after (slot + 1)))
  pub count : faults.count ≡ length (course.joined slot)
  pub breaks : faults.breaks ≡ course.breaks slot

-- Walks.

-- the first slot in which a fault may come after these
abbrev pub earliest_after : ℕ → ℕ → List ℕ → ℕ
earliest_after gap earliest [] = earliest
earliest_after gap earliest (slot ∷ slots) = earliest_after gap (slot + gap) slots

-- the slots of the faults of the first slots of a run, in order
abbrev pub fault_slots_before : Script → Course → ℕ → List ℕ
fault_slots_before script course slot = reverse (map (λ f. f.slot) (course.all (min slot script.slots)))

-- two rounds of a list, in slots
abbrev pub two_rounds : Medl → ℕ
two_rounds list = 2 * length list.slots

-- whether there is enough at a slot, and then the first from it on and before another that lacks something
abbrev pub first_lack : Bool → (ℕ → Bool) → ℕ → ℕ → Option ℕ
first_lack enough lacks from slot =
    if nat_lt slot from then None else (if enough then find lacks (range_with_len from (slot - from)) else Some from)

abbrev pub has_four_in : Medl → Script → Course → ℕ → Bool
has_four_in list script course slot = has_four_steady list script (course.after slot)

-- too few are steady after a slot
abbrev pub lacks_four_in : Medl → Script → Course → ℕ → Bool
lacks_four_in list script course slot = not (has_four_in list script course (suc slot))

-- the first slot from that of the start on, and before another, after which there are too few nodes to measure
abbrev pub first_unsteady : Medl → Script → ClusterStart → Course → ℕ → Option ℕ
first_unsteady list script start course slot =
    first_lack (has_four_in list script course start.slot) (lacks_four_in list script course) start.slot slot

-- a walk has gone over the slots before a slot, and met none whose losses are those of more than one fault
pub record HasWalked (list : Medl) (script : Script) (start : ClusterStart) (course : Course) (slot : ℕ) (walk : Walk)
    : Type 0 where
  pub whole : (k : ℕ) → k < slot → k < script.slots → course.breaks k ≡ false
  pub faulty : HaveSameNodes walk.faulty (numbers_of (course.after slot))
  pub earliest : walk.earliest
      ≡ earliest_after (two_rounds list) (start.slot + two_rounds list) (fault_slots_before script course slot)
  pub early : walk.early
      ≡ first_too_early (two_rounds list) (start.slot + two_rounds list) (fault_slots_before script course slot)
  pub unsteady : walk.unsteady ≡ first_unsteady list script start course slot
