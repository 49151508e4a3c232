-- The single-fault hypothesis: seven rules, of which the first that is broken is named with a slot, and the nodes
-- that are faulty by it.
use Rattle.std.specs.Prelude.{ℕ, zero, suc, ◌+◌, ◌-◌, ◌*◌, ◌%◌, min, nat_le, nat_lt, ℤ, pos, neg_ℤ, ◌+ℤ◌, ◌*ℤ◌, Bool}
use Rattle.std.specs.Prelude.{true, false, ◌&&◌, ◌||◌, not, ◌==◌, List, [], ◌∷◌, ◌++◌, map, length, reverse, filter}
use Rattle.std.specs.Prelude.{find, Option, Some, None, option_map, int_le, if◌then◌else◌}
use Rattle.std.specs.List.{list_all, list_any, filter_map, range_with_len}
use Rattle.ttp_base.specs.NodeSet.{below, has_node}
use Rattle.ttp_world.specs.declared.keep.Keep.{Keep}
use Rattle.ttp_world.specs.declared.keep.Keep.TheVariants as keep
use Rattle.ttp_world.specs.declared.medl.Medl.{Medl}
use Rattle.ttp_world.specs.declared.script.Channel.{Channel}
use Rattle.ttp_world.specs.declared.script.Channel.TheVariants as channel
use Rattle.ttp_world.specs.declared.script.Event.{Event}
use Rattle.ttp_world.specs.declared.script.Event.TheVariants as event
use Rattle.ttp_world.specs.declared.script.Fault.TheVariants as fault
use Rattle.ttp_world.specs.declared.script.Script.{Script}
use Rattle.ttp_world.specs.Medl.{plan_at, may_start}
use Rattle.ttp_world.specs.Script.{on_slot, is_ever_on, is_on, drift_of, reading_error, jump_of, has_jump}
use Rattle.ttp_world.specs.Script.{has_send_fault, has_receive_fault}

-- the nodes of a list, one for each slot of a round, by their numbers from 0 on
abbrev pub nodes_of : Medl → List ℕ
nodes_of list = below (length list.slots)

-- Each rule gives the slot that is named where it is broken, and nothing where it holds.

-- Clocks (H1): each drift and each sum of reading errors is within its bound.

-- a number is no further from 0 than a bound
abbrev pub is_within_bound : ℤ → ℤ → Bool
is_within_bound bound z = int_le (neg_ℤ bound) z && int_le z bound

-- the drift of each node is within the list's bound
abbrev pub drifts_hold : Medl → Script → Bool
drifts_hold list script = list_all (λ k. is_within_bound list.drift (drift_of script k)) (nodes_of list)

-- the sum of each node's reading errors in a slot is within the list's bound
abbrev pub errors_hold_in : Medl → Script → ℕ → Bool
errors_hold_in list script slot =
    list_all (λ k. is_within_bound list.error (reading_error script k slot)) (nodes_of list)

-- clocks (H1): slot 0 where a drift is past its bound, and else the first slot with reading errors that are
abbrev pub clocks_broken : Medl → Script → Option ℕ
clocks_broken list script =
    if drifts_hold list script
    then find (λ slot. not (errors_hold_in list script slot)) (below script.slots)
    else Some 0

-- The window (H2): it is as wide as a deviation between correct nodes needs.

-- 4 D n
abbrev pub drift_share : Medl → ℤ
drift_share list = list.drift *ℤ pos (4 * length list.slots)

-- how far a deviation between correct nodes may lie from 0
abbrev pub needed : Medl → ℤ
needed list = drift_share list +ℤ (list.error *ℤ pos 3 +ℤ pos 1)

-- the window (H2): slot 0 where it is narrower than a deviation between correct nodes needs
abbrev pub window_broken : Medl → Option ℕ
window_broken list = if int_le (needed list) list.window then None else Some 0

-- What stands outside (H3): no bit is flipped, no node is armed, and a clock jumps at most once,
-- by four windows or more.

-- four windows of a list, in microticks
abbrev pub four_windows : Medl → ℤ
four_windows list = list.window *ℤ pos 4

-- a jump goes four windows or more, either way
abbrev pub is_far_jump : Medl → ℤ → Bool
is_far_jump list jump = int_le (four_windows list) jump || int_le jump (neg_ℤ (four_windows list))

-- an event is a jump of the node before a slot, and there is one
abbrev pub is_jump_before : ℕ → ℕ → Event → Bool
is_jump_before k slot (event.Jump node value at) = (node == k) && nat_lt at slot
is_jump_before k slot _ = false

-- the clock of node k jumps before a slot
abbrev pub has_jumped_before : Script → ℕ → ℕ → Bool
has_jumped_before script k slot = list_any (is_jump_before k slot) script.events

-- a node's jumps of a slot add up to one, which is its first and goes far
abbrev pub is_allowed_jump : Medl → Script → ℕ → ℕ → Bool
is_allowed_jump list script k slot = is_far_jump list (jump_of script k slot) && not (has_jumped_before script k slot)

-- the slot of an event that stands outside: a flipped bit, an armed node, or a jump that is not allowed
abbrev pub outside_slot : Medl → Script → Event → Option ℕ
outside_slot list script (event.Flip node channels bit slot) = Some slot
outside_slot list script (event.Arm node slot) = Some slot
outside_slot list script (event.Jump node value slot) =
    if is_allowed_jump list script node slot then None else Some slot
outside_slot list script _ = None

-- the lesser of a slot and one that may be there
abbrev pub lesser : ℕ → Option ℕ → Option ℕ
lesser n None = Some n
lesser n (Some m) = Some (min n m)

-- the least of some slots, if there are any
abbrev pub least_of : List ℕ → Option ℕ
least_of [] = None
least_of (n ∷ ns) = lesser n (least_of ns)

-- what stands outside (H3): no bit is flipped, no node is armed, and a clock jumps at most once, by four windows or
-- more
abbrev pub outside_broken : Medl → Script → Option ℕ
outside_broken list script = least_of (filter_map (outside_slot list script) script.events)

-- The start (H4): one starter alone reaches the first slot in which one would start, and each node that is ever on is
-- on by then.

-- the slot of the start, and the node that starts
pub record ClusterStart : Type 0 where
  pub slot : ℕ
  pub node : ℕ

-- when a node would start on a silent bus, where it may
abbrev pub start_slot : Medl → Script → ℕ → Option ℕ
start_slot list script k =
    if may_start list k then option_map (λ on. on + 2 * length list.slots + k) (on_slot script k) else None

-- a slot that may be there is this one
abbrev pub is_exactly : ℕ → Option ℕ → Bool
is_exactly n None = false
is_exactly n (Some m) = m == n

-- node k would start in a slot
abbrev pub starts_in : Medl → Script → ℕ → ℕ → Bool
starts_in list script slot k = is_exactly slot (start_slot list script k)

-- each node that is ever on is on by a slot
abbrev pub are_all_on : Medl → Script → ℕ → Bool
are_all_on list script slot = list_all (λ k. not (is_ever_on script k) || is_on script k slot) (nodes_of list)

-- the start in a slot, where one node alone would start in it
abbrev pub only_starter : ℕ → List ℕ → Option ClusterStart
only_starter slot [] = None
only_starter slot (k ∷ []) = Some (record { slot = slot; node = k })
only_starter slot (k ∷ j ∷ ks) = None

-- the start (H4): in this slot, if there is one, one node alone starts, and each that is ever on is on by then
abbrev pub start_in : Medl → Script → Option ℕ → Option ClusterStart
start_in list script None = None
start_in list script (Some slot) =
    if are_all_on list script slot
    then only_starter slot (filter (starts_in list script slot) (nodes_of list))
    else None

-- the start, where the rule holds
abbrev pub start_of : Medl → Script → Option ClusterStart
start_of list script = start_in list script (least_of (filter_map (start_slot list script) (nodes_of list)))

-- Losses (H5): a node whose clock jumps becomes faulty, and in each slot from the start on nobody loses the frame, or
-- all others do, or exactly one of them.

-- the node whose slot it is from the start on: nodes take turns
abbrev pub expected_sender : Medl → ClusterStart → ℕ → ℕ
expected_sender list start slot = (start.node + (slot - start.slot)) % length list.slots

-- a fault of the sender or of the receiver covers the slot on a channel
abbrev pub is_covered : Script → ℕ → ℕ → ℕ → Channel → Bool
is_covered script sender r slot c =
    (has_send_fault script fault.Silence sender c slot || has_send_fault script fault.Noise sender c slot)
    || (has_receive_fault script fault.Silence r c slot || has_receive_fault script fault.Noise r c slot)

-- on both
abbrev pub loses : Script → ℕ → ℕ → ℕ → Bool
loses script sender slot r = is_covered script sender r slot channel.A && is_covered script sender r slot channel.B

-- another node than the sender that is on, and not one of the faulty
abbrev pub is_other : Script → List ℕ → ℕ → ℕ → ℕ → Bool
is_other script faulty sender slot r = is_on script r slot && (not (has_node faulty r) && not (r == sender))

-- those of a list
abbrev pub others_in : Medl → Script → List ℕ → ℕ → ℕ → List ℕ
others_in list script faulty sender slot = filter (is_other script faulty sender slot) (nodes_of list)

-- what the losses of a slot mean: they make nobody faulty, or one node, or break the rule on them
pub data Loss : Type 0 where
  Harmless : Loss
  Makes : (node : ℕ) → Loss
  Breaks : Loss

-- what it means that some of the others lost the frame
abbrev pub loss_among : ℕ → List ℕ → List ℕ → Loss
loss_among sender others [] = Harmless
loss_among sender others (r ∷ []) = if length others == 1 then Makes sender else Makes r
loss_among sender others (r ∷ q ∷ lost) = if length others == length (r ∷ q ∷ lost) then Makes sender else Breaks

-- what it means that those of some others who lose the frame do so
abbrev pub receivers_loss : Script → ℕ → ℕ → List ℕ → Loss
receivers_loss script sender slot others = loss_among sender others (filter (loses script sender slot) others)

-- of a sender that is never on or faulty nothing is asked
abbrev pub sender_loss : Medl → Script → List ℕ → ℕ → ℕ → Loss
sender_loss list script faulty slot sender =
    if not (is_ever_on script sender) || has_node faulty sender then Harmless
    else receivers_loss script sender slot (others_in list script faulty sender slot)

-- the nodes that become faulty in a slot by their jumps, where these are faulty before it
abbrev pub jumps_now : Script → List ℕ → ℕ → ℕ → Bool
jumps_now script faulty slot k = is_on script k slot && (not (has_node faulty k) && has_jump script k slot)

-- those of a list
abbrev pub jumpers_in : Medl → Script → List ℕ → ℕ → List ℕ
jumpers_in list script faulty slot = filter (jumps_now script faulty slot) (nodes_of list)

-- a slot's loss, where these are faulty before it; before the start nothing is asked
abbrev pub loss_in : Medl → Script → ClusterStart → List ℕ → ℕ → Loss
loss_in list script start faulty slot =
    if nat_lt slot start.slot then Harmless
    else sender_loss list script (jumpers_in list script faulty slot ++ faulty) slot (expected_sender list start slot)

-- the node that a loss makes faulty, if it makes one so
abbrev pub nodes_made : Loss → List ℕ
nodes_made Harmless = []
nodes_made (Makes node) = node ∷ []
nodes_made Breaks = []

-- a node that became faulty in a slot
pub record FaultyNode : Type 0 where
  pub slot : ℕ
  pub node : ℕ

-- the nodes alone
abbrev pub numbers_of : List FaultyNode → List ℕ
numbers_of faulty = map (λ f. f.node) faulty

-- those of a slot, where these became faulty before it, the newest first
abbrev pub faulty_nodes_in : Medl → Script → ClusterStart → ℕ → List FaultyNode → List FaultyNode
faulty_nodes_in list script start slot faulty =
    map (λ k. record { slot = slot; node = k })
    (nodes_made (loss_in list script start (numbers_of faulty) slot) ++ jumpers_in list script (numbers_of faulty) slot)

-- those of the first slots, so many
abbrev pub faulty_nodes_before : Medl → Script → ClusterStart → ℕ → List FaultyNode
faulty_nodes_before list script start zero = []
faulty_nodes_before list script start (suc slot) =
    let faulty = faulty_nodes_before list script start slot in
    faulty_nodes_in list script start slot faulty ++ faulty

-- a loss breaks the rule
abbrev pub is_breaking : Loss → Bool
is_breaking Harmless = false
is_breaking (Makes node) = false
is_breaking Breaks = true

-- the losses of a slot break the rule
abbrev pub breaks_in : Medl → Script → ClusterStart → ℕ → Bool
breaks_in list script start slot =
    is_breaking (loss_in list script start (numbers_of (faulty_nodes_before list script start slot)) slot)

-- losses (H5): from the start on nobody loses the frame of a slot, or all others do, or exactly one of them
abbrev pub loss_broken : Medl → Script → ClusterStart → Option ℕ
loss_broken list script start = find (breaks_in list script start) (below script.slots)

-- Distances (H6): faults lie two rounds apart, and the first lies two rounds after the start.

-- the first of some slots that lies before the earliest one, or less than so many slots behind the one before it
abbrev pub first_too_early : ℕ → ℕ → List ℕ → Option ℕ
first_too_early gap earliest [] = None
first_too_early gap earliest (slot ∷ slots) =
    if nat_lt slot earliest then Some slot else first_too_early gap (slot + gap) slots

-- the slots of all faults of the run, in order
abbrev pub fault_slots : Medl → Script → ClusterStart → List ℕ
fault_slots list script start = reverse (map (λ f. f.slot) (faulty_nodes_before list script start script.slots))

-- distances (H6): faults lie two rounds apart, and the first lies two rounds after the start
abbrev pub distance_broken : Medl → Script → ClusterStart → Option ℕ
distance_broken list script start =
    first_too_early (2 * length list.slots) (start.slot + 2 * length list.slots) (fault_slots list script start)

-- Nodes to measure (H7): at the start, and after each slot from then on, four nodes with sync are not faulty.

-- node k has sync, is ever on, and is not one of the faulty
abbrev pub is_steady : Medl → Script → List ℕ → ℕ → Bool
is_steady list script faulty k = (plan_at list k).sync && (is_ever_on script k && not (has_node faulty k))

-- four nodes or more are steady
abbrev pub has_four_steady : Medl → Script → List FaultyNode → Bool
has_four_steady list script faulty =
    nat_le 4 (length (filter (is_steady list script (numbers_of faulty)) (nodes_of list)))

-- after a slot fewer than four are steady
abbrev pub lacks_steady_after : Medl → Script → ClusterStart → ℕ → Bool
lacks_steady_after list script start slot =
    not (has_four_steady list script (faulty_nodes_before list script start (suc slot)))

-- the slots of the run from the start on
abbrev pub slots_since_start : Script → ClusterStart → List ℕ
slots_since_start script start = range_with_len start.slot (script.slots - start.slot)

-- nodes to measure (H7): at the start, and after each slot from then on, four nodes with sync are not faulty
abbrev pub sync_broken : Medl → Script → ClusterStart → Option ℕ
sync_broken list script start =
    if has_four_steady list script (faulty_nodes_before list script start start.slot)
    then find (lacks_steady_after list script start) (slots_since_start script start) else Some start.slot

-- The test.

-- the answer is this rule with its slot, where it is broken, and else what the others say
abbrev pub unless : ℕ → Option ℕ → Keep → Keep
unless rule None others = others
unless rule (Some slot) others = keep.No rule slot

-- the answer of the rules behind the start, by the start, if there is one
abbrev pub started_keep : Medl → Script → Option ClusterStart → Keep
started_keep list script None = keep.No 4 0
started_keep list script (Some start) =
    unless 5 (loss_broken list script start)
    (unless 6 (distance_broken list script start) (unless 7 (sync_broken list script start) (keep.Yes start.slot)))

-- the rules in their order: the first that is broken, or the slot of the start
abbrev pub keeps : Medl → Script → Keep
keeps list script =
    unless 1 (clocks_broken list script)
    (unless 2 (window_broken list)
    (unless 3 (outside_broken list script) (started_keep list script (start_of list script))))

-- Faulty and correct nodes.

-- the faulty nodes after a slot, each with the slot since when, by the start, if there is one
abbrev pub started_faulty_nodes : Medl → Script → ℕ → Option ClusterStart → List FaultyNode
started_faulty_nodes list script slot None = []
started_faulty_nodes list script slot (Some start) = faulty_nodes_before list script start (suc slot)

-- the nodes that became faulty in slots up to a slot
abbrev pub faulty_nodes_after : Medl → Script → ℕ → List FaultyNode
faulty_nodes_after list script slot = started_faulty_nodes list script slot (start_of list script)

-- the nodes that are faulty after a slot
abbrev pub faulty_after : Medl → Script → ℕ → List ℕ
faulty_after list script slot = numbers_of (faulty_nodes_after list script slot)

-- on, and not faulty
abbrev pub is_correct_after : Medl → Script → ℕ → ℕ → Bool
is_correct_after list script slot k = is_on script k slot && not (has_node (faulty_after list script slot) k)
