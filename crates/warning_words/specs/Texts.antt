-- What a line says of a rule that is not kept.
use Rattle.std.specs.Prelude.{ℕ, ℤ, pos, ◌*ℤ◌, Bool, true, false, List, ◌++◌}
use Rattle.std.specs.Prelude.{length, codes, unwrap_or, Option, Some, None}
use Rattle.std.specs.Fmt.{decimal, signed_decimal}
use Rattle.ttp_world.specs.declared.medl.Medl.{Medl}
use Rattle.ttp_world.specs.declared.script.Script.{Script}
use Rattle.ttp_world.specs.Hypothesis.{four_windows}
use Rattle.ttp_world.specs.Script.{drift_of, on_slot}
use Rattle.broken_arms.specs.declared.arms.BrokenArm.{BrokenArm}
use Rattle.broken_arms.specs.declared.reasons.NotOwed.{NotOwed}
use Rattle.broken_arms.specs.declared.reasons.NotOwed.TheVariants as not_owed
use Rattle.broken_faults.specs.declared.early.EarlyFault.{EarlyFault}
use Rattle.broken_faults.specs.declared.early.Since.{Since}
use Rattle.broken_faults.specs.declared.early.Since.TheVariants as since
use Rattle.broken_faults.specs.declared.few.TooFew.{TooFew}
use Rattle.broken_faults.specs.declared.losses.LostFrame.{LostFrame}
use Rattle.broken_rules.specs.declared.jumps.Disturbance.{Disturbance}
use Rattle.broken_rules.specs.declared.jumps.Disturbance.TheVariants as disturbance
use Rattle.broken_rules.specs.declared.start.NoStart.{NoStart}
use Rattle.broken_rules.specs.declared.start.NoStart.TheVariants as why
use Rattle.check_words.specs.Nodes.{nodes_text}

-- a drift past the list's bound
abbrev pub drift_text : Medl → Script → ℕ → List ℕ
drift_text list script node =
    codes "drift of node " ++ (decimal node ++ (codes " is " ++ (signed_decimal (drift_of script node) ++ (codes
    ", past drift = " ++ (signed_decimal list.drift ++ codes " of the list")))))

-- reading errors that add up to more than the list's bound
abbrev pub errors_text : Medl → ℕ → ℤ → List ℕ
errors_text list node sum =
    codes "error lines of node " ++ (decimal node ++ (codes " add up to " ++ (signed_decimal sum ++ (codes
    ", past error = " ++ (signed_decimal list.error ++ codes " of the list")))))

-- a window that is narrower than the one that is due: how many drifts, how many errors, and what more
abbrev pub window_said : Medl → Bool → ℤ → List ℕ
window_said list false due =
    codes "window is " ++ (signed_decimal list.window ++ (codes ", wanted " ++ (signed_decimal due ++ (codes
    " or more: 4 * drift " ++ (signed_decimal list.drift ++ (codes " * nodes " ++ (decimal (length list.slots) ++
    (codes " + 3 * error " ++ (signed_decimal list.error ++ codes " + 1")))))))))
window_said list true due =
    codes "window is " ++ (signed_decimal list.window ++ (codes ", wanted " ++ (signed_decimal due ++ (codes
    " or more: 8 * drift " ++ (signed_decimal list.drift ++ (codes " * nodes " ++ (decimal (length list.slots) ++
    (codes " + 6 * error " ++ (signed_decimal list.error ++ codes " + 2")))))))))

-- a flipped bit, or a jump that is not allowed
abbrev pub disturbance_text : Medl → Disturbance → List ℕ
disturbance_text list (disturbance.FlippedBit node) =
    codes "a bit of the frame of node " ++ (decimal node ++ codes " is flipped")
disturbance_text list (disturbance.JumpsAgain node first) =
    codes "node " ++ (decimal node ++ (codes " jumps again, after slot " ++ decimal first))
disturbance_text list (disturbance.ShortJump node sum) =
    codes "jumps of node " ++ (decimal node ++ (codes " add up to " ++ (signed_decimal sum ++ (codes ", wanted " ++
    (signed_decimal (four_windows list) ++ codes " or more, ahead or back")))))

-- the slot in which a node is switched on
abbrev pub slot_on : Script → ℕ → ℕ
slot_on script node = unwrap_or (on_slot script node) 0

-- why there is no start, where this node is one that comes on later
abbrev pub no_start_text : Script → ℕ → NoStart → List ℕ
no_start_text script node why.NoStarter = codes "no slot has start = true, wanted one or more"
no_start_text script node why.NobodyOn = codes "no node is on, wanted a line on NODE SLOT for each"
no_start_text script node (why.NoStarterOn starters) =
    codes "no node that may start is on, wanted one of: " ++ nodes_text starters
no_start_text script node (why.Rivals slot first second) =
    codes "nodes " ++ (decimal first ++ (codes " and " ++ (decimal second ++ (codes " would both start in slot " ++
    (decimal slot ++ codes ", wanted one alone")))))
no_start_text script node (why.Late slot nodes) =
    codes "node " ++ (decimal node ++ (codes " is on from slot " ++ (decimal (slot_on script node) ++ (codes
    ", wanted slot " ++ (decimal slot ++ codes " or earlier, the slot of the start")))))

-- a frame that some lost and others did not
abbrev pub lost_text : LostFrame → List ℕ
lost_text lost =
    codes "the frame of node " ++ (decimal lost.sender ++ (codes " is lost to nodes " ++ (nodes_text lost.lost ++
    (codes ", but not to " ++ (nodes_text lost.heard ++ codes ": wanted lost to one node or to all")))))

-- what a fault is to lie two rounds behind
abbrev pub since_text : Since → List ℕ
since_text (since.Start slot) = codes "the start in slot " ++ decimal slot
since_text (since.Fault slot node) = codes "node " ++ (decimal node ++ (codes " did in slot " ++ decimal slot))

-- a fault that comes too early
abbrev pub early_front : EarlyFault → List ℕ
early_front fault =
    codes "node " ++ (decimal fault.node ++ (codes " becomes faulty, wanted slot " ++ (decimal fault.earliest ++ codes
    " or later, two rounds after ")))

abbrev pub early_text : EarlyFault → List ℕ
early_text fault = early_front fault ++ since_text fault.since

-- too few nodes to measure
abbrev pub few_text : TooFew → List ℕ
few_text few = codes "wanted four or more correct nodes with sync = true, left: " ++ nodes_text few.left

-- why an arm line in a slot does not give its node its place
abbrev pub not_owed_text : ℕ → NotOwed → List ℕ
not_owed_text slot not_owed.NotFaulty = codes "it is not faulty before"
not_owed_text slot (not_owed.TooSoon since due) =
    codes "it is faulty since slot " ++ (decimal since ++ (codes ", wanted an arm line in slot " ++ (decimal due ++
    codes " or later")))
not_owed_text slot (not_owed.Joins node joined from to) =
    codes "node " ++ (decimal node ++ (codes " becomes faulty in slot " ++ (decimal joined ++ (codes
    ", wanted none from slot " ++ (decimal from ++ (codes " to " ++ decimal to))))))
not_owed_text slot (not_owed.OtherArm to) =
    codes "another arm line, wanted none from slot " ++ (decimal slot ++ (codes " to " ++ decimal to))
not_owed_text slot (not_owed.OwnLine at to) =
    codes "it has a send, receive or jump line in slot " ++ (decimal at ++ (codes ", wanted none to slot " ++ decimal
    to))
not_owed_text slot (not_owed.Unheard node at) =
    codes "node " ++ (decimal node ++ (codes " does not hear its slot " ++ decimal at))
not_owed_text slot (not_owed.NoPlace to) =
    codes "no frame of kind I or X in slots " ++ (decimal slot ++ (codes " to " ++ decimal to))

-- an arm line that does not give its node its place
abbrev pub arm_front : BrokenArm → List ℕ
arm_front arm = codes "node " ++ (decimal arm.node ++ codes " is not owed its place: ")

abbrev pub arm_text : BrokenArm → List ℕ
arm_text arm = arm_front arm ++ not_owed_text arm.slot arm.why
