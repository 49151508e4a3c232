-- When a node that is armed to listen again is guaranteed its place: eight rules, of which the first that is broken is
-- named with a slot. Most are those of the single-fault hypothesis; but arm lines may stand, and four rounds after it
-- was armed a node is faulty no longer.
use Rattle.std.specs.Prelude.{ℕ, zero, suc, ◌+◌, ◌-◌, ◌*◌, ◌/◌, ◌%◌, min, nat_le, nat_lt, ℤ, pos, ◌+ℤ◌, ◌*ℤ◌}
use Rattle.std.specs.Prelude.{Bool, true, false, ◌&&◌, ◌||◌, not, ◌==◌, List, [], ◌∷◌, ◌++◌, map, length, reverse}
use Rattle.std.specs.Prelude.{filter, flat_map, find, get_or, count_by, Option, Some, None, int_le, if◌then◌else◌}
use Rattle.std.specs.List.{list_any, filter_map, range_with_len}
use Rattle.ttp_base.specs.NodeSet.{below, has_node}
use Rattle.ttp_world.specs.declared.keep.Back.{Back}
use Rattle.ttp_world.specs.declared.keep.Back.TheVariants as back
use Rattle.ttp_world.specs.declared.medl.Kind.{Kind}
use Rattle.ttp_world.specs.declared.medl.Kind.TheVariants as kind
use Rattle.ttp_world.specs.declared.medl.Medl.{Medl}
use Rattle.ttp_world.specs.declared.script.Channel.{Channel}
use Rattle.ttp_world.specs.declared.script.Channel.TheVariants as channel
use Rattle.ttp_world.specs.declared.script.Event.{Event}
use Rattle.ttp_world.specs.declared.script.Event.TheVariants as event
use Rattle.ttp_world.specs.declared.script.Fault.TheVariants as fault
use Rattle.ttp_world.specs.declared.script.Script.{Script}
use Rattle.ttp_world.specs.Hypothesis.{nodes_of, clocks_broken, is_allowed_jump, least_of, ClusterStart, start_of}
use Rattle.ttp_world.specs.Hypothesis.{expected_sender, loss_in, is_breaking, FaultyNode, numbers_of, faulty_nodes_in}
use Rattle.ttp_world.specs.Hypothesis.{first_too_early, has_four_steady, slots_since_start}
use Rattle.ttp_world.specs.Medl.{kind_at}
use Rattle.ttp_world.specs.Script.{is_on, is_armed, has_receive_fault}

-- The rules in their order. Each gives the slot that is named where it is broken, and nothing where it holds.

-- Clocks (Q1) are asked as in the hypothesis: `clocks_broken`.

-- The window (Q2): it is as wide as a deviation needs between nodes of which one came back.

-- 8 D n + 6 E + 2
abbrev pub needed_back : Medl → ℤ
needed_back list = list.drift *ℤ pos (8 * length list.slots) +ℤ (list.error *ℤ pos 6 +ℤ pos 2)

-- the window (Q2): slot 0 where it is narrower than a deviation needs between nodes of which one came back
abbrev pub back_window_broken : Medl → Option ℕ
back_window_broken list = if int_le (needed_back list) list.window then None else Some 0

-- What stands outside (Q3): no bit is flipped, and a clock jumps at most once, by four windows or more.

-- the slot of an event that breaks the rule on what stands outside: a flipped bit, or a jump that is not allowed
abbrev pub disturbed_slot : Medl → Script → Event → Option ℕ
disturbed_slot list script (event.Flip node channels bit slot) = Some slot
disturbed_slot list script (event.Jump node value slot) =
    if is_allowed_jump list script node slot then None else Some slot
disturbed_slot list script _ = None

-- what stands outside (Q3): no bit is flipped, and a clock jumps at most once, by four windows or more
abbrev pub disturbance_broken : Medl → Script → Option ℕ
disturbance_broken list script = least_of (filter_map (disturbed_slot list script) script.events)

-- The start (Q4) is asked as in the hypothesis: `start_of`.

-- Losses (Q5): as in the hypothesis, but at the beginning of a slot a node is faulty no longer that was armed four
-- rounds before, and was faulty at the beginning of that slot.

-- a slot of a run: the nodes that are faulty at its beginning, and those that become faulty in it
pub record FaultySlot : Type 0 where
  pub stayed : List FaultyNode
  pub joined : List FaultyNode

-- the slot that is read where a run has none: nobody is faulty in it
abbrev pub no_slot : FaultySlot
no_slot = record { stayed = []; joined = [] }

-- the nodes that are faulty after slots, the newest slot first
abbrev pub faulty_since : List FaultySlot → List FaultyNode
faulty_since [] = []
faulty_since (s ∷ before) = s.joined ++ s.stayed

-- four rounds of a list, in slots
abbrev pub four_rounds : Medl → ℕ
four_rounds list = 4 * length list.slots

-- the nodes that were faulty at the beginning of the slot four rounds before the next one
abbrev pub faulty_then : Medl → List FaultySlot → List ℕ
faulty_then list before = numbers_of (get_or before (four_rounds list - 1) no_slot).stayed

-- a node is faulty no longer from a slot on
abbrev pub is_forgiven : Medl → Script → List FaultySlot → ℕ → ℕ → Bool
is_forgiven list script before slot k =
    has_node (faulty_then list before) k && is_armed script k (slot - four_rounds list)

-- the nodes that are still faulty at the beginning of a slot, each with the slot since when
abbrev pub stayed_in : Medl → Script → List FaultySlot → ℕ → List FaultyNode
stayed_in list script before slot =
    filter (λ f. not (is_forgiven list script before slot f.node)) (faulty_since before)

-- a slot with those and with the nodes that become faulty in it, as in the hypothesis
abbrev pub faulty_slot : Medl → Script → ClusterStart → ℕ → List FaultyNode → FaultySlot
faulty_slot list script start slot stayed =
    record { stayed = stayed; joined = faulty_nodes_in list script start slot stayed }

-- the first slots, so many, the newest first
abbrev pub slots_before : Medl → Script → ClusterStart → ℕ → List FaultySlot
slots_before list script start zero = []
slots_before list script start (suc slot) =
    let before = slots_before list script start slot in
    faulty_slot list script start slot (stayed_in list script before slot) ∷ before

-- the nodes that are faulty at the beginning of a slot
abbrev pub faulty_at : Medl → Script → ClusterStart → ℕ → List FaultyNode
faulty_at list script start slot = stayed_in list script (slots_before list script start slot) slot

-- the losses of a slot break the rule on them
abbrev pub breaks_back_in : Medl → Script → ClusterStart → ℕ → Bool
breaks_back_in list script start slot =
    is_breaking (loss_in list script start (numbers_of (faulty_at list script start slot)) slot)

-- losses (Q5): as in the hypothesis, but a node is faulty no longer four rounds after it was armed
abbrev pub back_loss_broken : Medl → Script → ClusterStart → Option ℕ
back_loss_broken list script start = find (breaks_back_in list script start) (below script.slots)

-- Distances (Q6): as in the hypothesis, for each time that a node becomes faulty.

-- all that became faulty in slots, the newest first
abbrev pub joinings : List FaultySlot → List FaultyNode
joinings slots = flat_map (λ s. s.joined) slots

-- the slots of all faults of the run, in order
abbrev pub back_fault_slots : Medl → Script → ClusterStart → List ℕ
back_fault_slots list script start =
    reverse (map (λ f. f.slot) (joinings (slots_before list script start script.slots)))

-- distances (Q6): as in the hypothesis, for each time that a node becomes faulty
abbrev pub back_distance_broken : Medl → Script → ClusterStart → Option ℕ
back_distance_broken list script start =
    first_too_early (2 * length list.slots) (start.slot + 2 * length list.slots) (back_fault_slots list script start)

-- Nodes to measure (Q7): as in the hypothesis, of the nodes that are not faulty now.

-- four nodes or more are steady that are not faulty at the beginning of a slot
abbrev pub has_four_before : Medl → Script → ClusterStart → ℕ → Bool
has_four_before list script start slot =
    has_four_steady list script (faulty_since (slots_before list script start slot))

-- fewer than four are so after it
abbrev pub lacks_four_after : Medl → Script → ClusterStart → ℕ → Bool
lacks_four_after list script start slot = not (has_four_before list script start (suc slot))

-- nodes to measure (Q7): the first slot, from that of the start on, after which fewer than four are steady
abbrev pub back_sync_broken : Medl → Script → ClusterStart → Option ℕ
back_sync_broken list script start =
    if has_four_before list script start start.slot
    then find (lacks_four_after list script start) (slots_since_start script start) else Some start.slot

-- Arm lines (Q8). Each is asked about the four rounds from its slot on, as far as the run goes.

-- two rounds of a list, in slots
abbrev pub two_rounds : Medl → ℕ
two_rounds list = 2 * length list.slots

-- the node is faulty, for two rounds or more
abbrev pub is_long_faulty : Medl → Script → ClusterStart → ℕ → ℕ → Bool
is_long_faulty list script start k slot =
    list_any (λ f. (f.node == k) && nat_le (f.slot + two_rounds list) slot) (faulty_at list script start slot)

-- a slot lies in the two rounds up to another, or in the four from it on
abbrev pub is_near_fault : Medl → ℕ → ℕ → Bool
is_near_fault list slot at = nat_lt slot (at + two_rounds list) && nat_lt at (slot + four_rounds list)

-- no node becomes faulty so near
abbrev pub is_apart : Medl → Script → ClusterStart → ℕ → Bool
is_apart list script start slot =
    not (list_any (λ f. is_near_fault list slot f.slot) (joinings (slots_before list script start script.slots)))

-- an arm line, of whichever node, in those four rounds
abbrev pub is_arm_line : Medl → ℕ → Event → Bool
is_arm_line list slot (event.Arm node at) = nat_le slot at && nat_lt at (slot + four_rounds list)
is_arm_line list slot _ = false

-- there is one alone
abbrev pub is_only_arm : Medl → Script → ℕ → Bool
is_only_arm list script slot = count_by (is_arm_line list slot) script.events == 1

-- slots that lie in those four rounds, some of them
abbrev pub touches : Medl → ℕ → ℕ → ℕ → Bool
touches list slot from to = nat_lt from (slot + four_rounds list) && nat_le slot to

-- a line that speaks of the node's sending, its hearing or its clock there
abbrev pub is_line_of : Medl → ℕ → ℕ → Event → Bool
is_line_of list k slot (event.Send node channels f from to) = (node == k) && touches list slot from to
is_line_of list k slot (event.Receive node channels f from to) = (node == k) && touches list slot from to
is_line_of list k slot (event.Jump node value at) = (node == k) && touches list slot at at
is_line_of list k slot _ = false

-- no line speaks so of the node
abbrev pub is_left_alone : Medl → Script → ℕ → ℕ → Bool
is_left_alone list script k slot = not (list_any (is_line_of list k slot) script.events)

-- receive faults of a node cover a slot on a channel
abbrev pub is_deaf_on : Script → ℕ → ℕ → Channel → Bool
is_deaf_on script r slot c =
    has_receive_fault script fault.Silence r c slot || has_receive_fault script fault.Noise r c slot

-- on, and not faulty
abbrev pub is_sound : Script → List ℕ → ℕ → ℕ → Bool
is_sound script faulty slot r = is_on script r slot && not (has_node faulty r)

-- a node that is not faulty hears nothing in a slot
abbrev pub is_deaf : Script → List ℕ → ℕ → ℕ → Bool
is_deaf script faulty slot r =
    is_sound script faulty slot r && (is_deaf_on script r slot channel.A && is_deaf_on script r slot channel.B)

-- a frame of the node goes past such a one
abbrev pub is_missed_in : Medl → Script → ClusterStart → ℕ → ℕ → Bool
is_missed_in list script start k slot =
    (expected_sender list start slot == k)
    && list_any (is_deaf script (numbers_of (faulty_at list script start slot)) slot) (nodes_of list)

-- the slots of the run among so many from a slot on
abbrev pub run_slots : Script → ℕ → ℕ → List ℕ
run_slots script slot count = range_with_len slot (min (slot + count) script.slots - slot)

-- each node that is not faulty hears the frames of the node in those four rounds, on one channel at least
abbrev pub is_heard : Medl → Script → ClusterStart → ℕ → ℕ → Bool
is_heard list script start k slot =
    not (list_any (is_missed_in list script start k) (run_slots script slot (four_rounds list)))

-- the round of the cluster cycle of a slot, from the start on
abbrev pub round_of : Medl → ClusterStart → ℕ → ℕ
round_of list start slot = (start.node + (slot - start.slot)) / length list.slots % list.rounds

-- a frame of this kind can be joined on
abbrev pub carries_place : Kind → Bool
carries_place kind.I = true
carries_place kind.N = false
carries_place kind.X = true

-- another node that is not faulty sends such a frame
abbrev pub offers_place : Medl → Script → ClusterStart → ℕ → ℕ → Bool
offers_place list script start k slot =
    let sender = expected_sender list start slot in
    not (sender == k) && (is_sound script (numbers_of (faulty_at list script start slot)) slot sender
    && carries_place (kind_at list (round_of list start slot) sender))

-- in one of the first two rounds, unless the run ends before they do
abbrev pub is_offered : Medl → Script → ClusterStart → ℕ → ℕ → Bool
is_offered list script start k slot =
    nat_lt script.slots (slot + two_rounds list)
    || list_any (offers_place list script start k) (run_slots script slot (two_rounds list))

-- all six
abbrev pub may_return : Medl → Script → ClusterStart → ℕ → ℕ → Bool
may_return list script start k slot =
    is_long_faulty list script start k slot
    && (is_apart list script start slot
    && (is_only_arm list script slot
    && (is_left_alone list script k slot
    && (is_heard list script start k slot && is_offered list script start k slot))))

-- a node does not meet them, if it is armed in the slot
abbrev pub fails_if_armed : Medl → Script → ClusterStart → ℕ → ℕ → Bool → Bool
fails_if_armed list script start k slot false = false
fails_if_armed list script start k slot true = not (may_return list script start k slot)

-- some node that is armed in a slot does not
abbrev pub breaks_arm_in : Medl → Script → ClusterStart → ℕ → Bool
breaks_arm_in list script start slot =
    list_any (λ k. fails_if_armed list script start k slot (is_armed script k slot)) (nodes_of list)

-- arm lines (Q8): the first slot in which a node is armed that does not meet them
abbrev pub arms_broken : Medl → Script → ClusterStart → Option ℕ
arms_broken list script start = find (breaks_arm_in list script start) (below script.slots)

-- Where no node is armed, there is nothing to guarantee.

-- an event arms a node
abbrev pub is_arm : Event → Bool
is_arm (event.Arm node slot) = true
is_arm _ = false

-- some event of a script arms a node; where none does, there is nothing to guarantee
abbrev pub has_arm : Script → Bool
has_arm script = list_any is_arm script.events

-- The test.

-- the answer is this rule with its slot, where it is broken, and else what the others say
abbrev pub unless_back : ℕ → Option ℕ → Back → Back
unless_back rule None others = others
unless_back rule (Some slot) others = back.No rule slot

-- the answer of the rules behind the start, by the start, if there is one
abbrev pub started_back : Medl → Script → Option ClusterStart → Back
started_back list script None = back.No 4 0
started_back list script (Some start) =
    unless_back 5 (back_loss_broken list script start)
    (unless_back 6 (back_distance_broken list script start)
    (unless_back 7 (back_sync_broken list script start)
    (unless_back 8 (arms_broken list script start) (back.Yes start.slot))))

-- the rules in their order: the first that is broken, or the slot of the start
abbrev pub returns : Medl → Script → Back
returns list script =
    unless_back 1 (clocks_broken list script)
    (unless_back 2 (back_window_broken list)
    (unless_back 3 (disturbance_broken list script) (started_back list script (start_of list script))))

-- Faulty nodes, and those that are correct by this test.

-- the nodes that are faulty after a slot, each with the slot since when, by the start, if there is one
abbrev pub started_since : Medl → Script → ℕ → Option ClusterStart → List FaultyNode
started_since list script slot None = []
started_since list script slot (Some start) = faulty_since (slots_before list script start (suc slot))

-- the nodes that are faulty after a slot, each with the slot since when
abbrev pub back_faulty_after : Medl → Script → ℕ → List FaultyNode
back_faulty_after list script slot = started_since list script slot (start_of list script)

-- on, and not faulty
abbrev pub is_back_correct_after : Medl → Script → ℕ → ℕ → Bool
is_back_correct_after list script slot k = is_sound script (numbers_of (back_faulty_after list script slot)) slot k
