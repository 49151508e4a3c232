-- Arm lines that do not give their node its place, and why.
use Rattle.std.specs.Prelude.{ℕ, suc, ◌+◌, ◌-◌, max, min, ◌==◌, List, [], ◌∷◌, find, Option}
use Rattle.std.specs.Prelude.{Some, None, option_map, if◌then◌else◌}
use Rattle.std.specs.List.{filter_map}
use Rattle.std.specs.Option.{option_or}
use Rattle.ttp_world.specs.declared.medl.Medl.{Medl}
use Rattle.ttp_world.specs.declared.script.Event.{Event}
use Rattle.ttp_world.specs.declared.script.Event.TheVariants as event
use Rattle.ttp_world.specs.declared.script.Script.{Script}
use Rattle.ttp_world.specs.Hypothesis.{ClusterStart, FaultyNode, nodes_of, expected_sender, least_of}
use Rattle.ttp_world.specs.Returning.{faulty_at, four_rounds, two_rounds, is_long_faulty, is_near_fault, is_only_arm}
use Rattle.ttp_world.specs.Returning.{touches, is_deaf, is_offered, run_slots, arms_broken}
use Rattle.broken_arms.specs.declared.arms.BrokenArm.{BrokenArm}
use Rattle.broken_arms.specs.declared.reasons.NotOwed.{NotOwed}
use Rattle.broken_arms.specs.declared.reasons.NotOwed.TheVariants as why
use Rattle.broken_faults.specs.Faults.{faulty_in, faults_before}

-- the last slot of the run among the four rounds from one on
abbrev pub last_in_rounds : Medl → Script → ℕ → ℕ
last_in_rounds list script slot = min (slot + four_rounds list) script.slots - 1

-- the slot in which one became faulty, if it is node k
abbrev pub since_of : ℕ → FaultyNode → Option ℕ
since_of k f = if f.node == k then Some f.slot else None

-- since when node k is one of some faulty nodes
abbrev pub faulty_from : List FaultyNode → ℕ → Option ℕ
faulty_from faulty k = least_of (filter_map (since_of k) faulty)

-- the first node that becomes faulty in the two rounds up to a slot or in the four from it on
abbrev pub near_fault : Medl → Script → ClusterStart → ℕ → Option FaultyNode
near_fault list script start slot =
    find (λ f. is_near_fault list slot f.slot) (faults_before list script start script.slots)

-- the first slot of the four rounds in which an event speaks of node k's sending, its hearing or its clock
abbrev pub own_event_slot : Medl → ℕ → ℕ → Event → Option ℕ
own_event_slot list k slot (event.Send node channels f from to) =
    if node == k then (if touches list slot from to then Some (max from slot) else None) else None
own_event_slot list k slot (event.Receive node channels f from to) =
    if node == k then (if touches list slot from to then Some (max from slot) else None) else None
own_event_slot list k slot (event.Jump node value at) =
    if node == k then (if touches list slot at at then Some at else None) else None
own_event_slot list k slot _ = None

-- the first of all events
abbrev pub own_line_slot : Medl → Script → ℕ → ℕ → Option ℕ
own_line_slot list script k slot = least_of (filter_map (own_event_slot list k slot) script.events)

-- the least node that is on and not faulty, and does not hear a slot
abbrev pub deaf_in : Medl → Script → ClusterStart → ℕ → Option ℕ
deaf_in list script start slot =
    find (is_deaf script (faulty_in list script start slot) slot) (nodes_of list)

-- the least node that is on and not faulty, and does not hear a slot that is node k's
abbrev pub unheard_in : Medl → Script → ClusterStart → ℕ → ℕ → Option NotOwed
unheard_in list script start k slot =
    if expected_sender list start slot == k
    then option_map (λ r. why.Unheard r slot) (deaf_in list script start slot) else None

-- the first of some slots that is node k's and is not heard so
abbrev pub unheard : Medl → Script → ClusterStart → ℕ → List ℕ → Option NotOwed
unheard list script start k [] = None
unheard list script start k (slot ∷ slots) =
    option_or (unheard_in list script start k slot) (unheard list script start k slots)

-- The conditions in their order, the last first.

abbrev pub offer_fails : Medl → Script → ClusterStart → ℕ → ℕ → Option NotOwed
offer_fails list script start k slot =
    if is_offered list script start k slot then None else Some (why.NoPlace (slot + two_rounds list - 1))

abbrev pub hearing_fails : Medl → Script → ClusterStart → ℕ → ℕ → Option NotOwed
hearing_fails list script start k slot =
    option_or (unheard list script start k (run_slots script slot (four_rounds list)))
    (offer_fails list script start k slot)

abbrev pub by_own_line : Medl → Script → ClusterStart → ℕ → ℕ → Option ℕ → Option NotOwed
by_own_line list script start k slot None = hearing_fails list script start k slot
by_own_line list script start k slot (Some at) = Some (why.OwnLine at (last_in_rounds list script slot))

abbrev pub only_arm_fails : Medl → Script → ClusterStart → ℕ → ℕ → Option NotOwed
only_arm_fails list script start k slot =
    if is_only_arm list script slot then by_own_line list script start k slot (own_line_slot list script k slot)
    else Some (why.OtherArm (last_in_rounds list script slot))

abbrev pub joins : Medl → Script → ℕ → FaultyNode → NotOwed
joins list script slot f = why.Joins f.node f.slot (suc slot - two_rounds list) (last_in_rounds list script slot)

abbrev pub by_near_fault : Medl → Script → ClusterStart → ℕ → ℕ → Option FaultyNode → Option NotOwed
by_near_fault list script start k slot None = only_arm_fails list script start k slot
by_near_fault list script start k slot (Some f) =
    Some (joins list script slot f)

abbrev pub by_since : Medl → Option ℕ → NotOwed
by_since list None = why.NotFaulty
by_since list (Some since) = why.TooSoon since (since + two_rounds list)

-- why an arm line of node k in a slot does not give it its place, if it does not
abbrev pub why_not_owed : Medl → Script → ClusterStart → ℕ → ℕ → Option NotOwed
why_not_owed list script start k slot =
    if is_long_faulty list script start k slot
    then by_near_fault list script start k slot (near_fault list script start slot)
    else Some (by_since list (faulty_from (faulty_at list script start slot) k))

-- Lines.

-- why an event, if it is an arm line in a slot, does not give its node its place
abbrev pub arm_fails : Medl → Script → ClusterStart → ℕ → ℕ → Event → Option BrokenArm
arm_fails list script start slot place (event.Arm node at) =
    if at == slot
    then option_map (λ reason. record { slot = slot; place = place; node = node; why = reason })
    (why_not_owed list script start node slot)
    else None
arm_fails list script start slot place _ = None

-- the first of some events that is such a line, where the first of them stands at a place
abbrev pub broken_from : Medl → Script → ClusterStart → ℕ → ℕ → List Event → Option BrokenArm
broken_from list script start slot place [] = None
broken_from list script start slot place (e ∷ events) =
    option_or (arm_fails list script start slot place e) (broken_from list script start slot (place + 1) events)

-- the first line in the slot that the rule on arm lines names
abbrev pub broken_at : Medl → Script → ClusterStart → Option ℕ → Option BrokenArm
broken_at list script start None = None
broken_at list script start (Some slot) = broken_from list script start slot 0 script.events

abbrev pub broken_arm : Medl → Script → ClusterStart → Option BrokenArm
broken_arm list script start = broken_at list script start (arms_broken list script start)
