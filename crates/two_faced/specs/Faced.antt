-- One two-faced sender: a node whose clock looks different to different receivers. Six rules say which scripts are
-- promised to be stood, of which the first that is broken is named with a slot.
use Rattle.std.specs.Prelude.{ℕ, nat_lt, ◌+ℤ◌, Bool, not, [], length, find, Option, Some, None, int_le, if◌then◌else◌}
use Rattle.std.specs.List.{filter_map}
use Rattle.ttp_base.specs.NodeSet.{below}
use Rattle.ttp_world.specs.declared.medl.Medl.{Medl}
use Rattle.ttp_world.specs.declared.script.Event.{Event}
use Rattle.ttp_world.specs.declared.script.Event.TheVariants as event
use Rattle.ttp_world.specs.declared.script.Script.{Script}
use Rattle.ttp_world.specs.Hypothesis.{ClusterStart, drifts_hold, least_of, start_of, has_four_steady}
pub use Rattle.two_faced.specs.Errors.{bound, is_faced_slot, allowed_error}
use Rattle.hypothesis.specs.Errors.{errors_hold_within}
use Rattle.hypothesis.specs.SoleStart.{sole_start}
use Rattle.two_faced.specs.declared.faced.Faced.{Faced}
use Rattle.two_faced.specs.declared.faced.Faced.TheVariants as faced

-- Each rule gives the slot that is named where it is broken, and nothing where it holds.

-- the node (F0): it is one of the list's
abbrev pub node_broken : Medl → ℕ → Option ℕ
node_broken list z = if nat_lt z (length list.slots) then None else Some 0

-- Clocks (F1): each drift and each sum of reading errors is within its bound, which is wider where the two-faced node
-- sends.

-- the reading errors of a slot are within their bound, which is wider where the two-faced node sends
abbrev pub errors_allowed_in : Medl → Script → ℕ → Option ClusterStart → ℕ → Bool
errors_allowed_in list script z start slot = errors_hold_within list script (allowed_error list z start slot) slot

-- clocks (F1): slot 0 where a drift is past its bound, and else the first slot with reading errors that are
abbrev pub faced_clocks_broken : Medl → Script → ℕ → Option ClusterStart → Option ℕ
faced_clocks_broken list script z start =
    if drifts_hold list script
    then find (λ slot. not (errors_allowed_in list script z start slot)) (below script.slots)
    else Some 0

-- the window (F2): it is as wide as a deviation between two other nodes needs, 12 D n + 7 E + 2
abbrev pub faced_window_broken : Medl → Option ℕ
faced_window_broken list = if int_le (bound list +ℤ list.error) list.window then None else Some 0

-- the slot of a fault, the first where it has two
abbrev pub first_fault_slot : Event → Option ℕ
first_fault_slot (event.Send node channels fault from to) = Some from
first_fault_slot (event.Receive node channels fault from to) = Some from
first_fault_slot (event.Flip node channels bit slot) = Some slot
first_fault_slot (event.Jump node value slot) = Some slot
first_fault_slot _ = None

-- faults (F3): no send or receive fault, no flipped bit and no jump
abbrev pub faults_broken : Script → Option ℕ
faults_broken script = least_of (filter_map first_fault_slot script.events)

-- the start (F4) is that of the single-fault hypothesis, and four nodes with `sync` are ever on (F5)
abbrev pub started_faced : Medl → Script → Option ClusterStart → Faced
started_faced list script None = faced.No 4 0
started_faced list script (Some start) =
    if has_four_steady list script [] then faced.Yes start.slot else faced.No 5 0

-- The test.

-- the answer is this rule with its slot, where it is broken, and else what the others say
abbrev pub unless_faced : ℕ → Option ℕ → Faced → Faced
unless_faced rule None others = others
unless_faced rule (Some slot) others = faced.No rule slot

-- the rules in their order for node z: the first that is broken, or the slot of the start
abbrev pub faced_of : Medl → Script → ℕ → Faced
faced_of list script z =
    unless_faced 0 (node_broken list z)
    (unless_faced 1 (faced_clocks_broken list script z (sole_start list script))
    (unless_faced 2 (faced_window_broken list)
    (unless_faced 3 (faults_broken script) (started_faced list script (start_of list script)))))
