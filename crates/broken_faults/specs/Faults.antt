-- The faults of a run in order, each with what caused it, and the rules on them.
--
-- Who is faulty is asked as for armed nodes: one that was armed is faulty no longer four rounds later. Where none is
-- armed, a node that is faulty stays so, and the rules are those of the hypothesis.
use Rattle.std.specs.Prelude.{ℕ, zero, suc, ◌+◌, ◌*◌, nat_lt, Bool, false, not, ◌&&◌, ◌==◌}
use Rattle.std.specs.Prelude.{List, [], ◌∷◌, ◌++◌, map, length, filter, Option, Some, None, option_map, if◌then◌else◌}
use Rattle.ttp_base.specs.NodeSet.{has_node}
use Rattle.ttp_world.specs.declared.medl.Medl.{Medl}
use Rattle.ttp_world.specs.declared.script.Event.{Event}
use Rattle.ttp_world.specs.declared.script.Event.TheVariants as event
use Rattle.ttp_world.specs.declared.script.Script.{Script}
use Rattle.ttp_world.specs.Hypothesis.{ClusterStart, FaultyNode, numbers_of, nodes_of, expected_sender, loses, is_other}
use Rattle.ttp_world.specs.Hypothesis.{jumpers_in, loss_in, nodes_made, is_steady}
use Rattle.ttp_world.specs.Returning.{slots_before, faulty_since, faulty_at, back_loss_broken, back_sync_broken}
use Rattle.ttp_world.specs.Returning.{has_four_before}
use Rattle.ttp_world.specs.Script.{covers}
use Rattle.broken_faults.specs.declared.early.EarlyFault.{EarlyFault}
use Rattle.broken_faults.specs.declared.losses.LostFrame.{LostFrame}
use Rattle.broken_faults.specs.declared.early.Since.{Since}
use Rattle.broken_faults.specs.declared.early.Since.TheVariants as since
use Rattle.broken_faults.specs.declared.few.TooFew.{TooFew}

-- The place of the first event of which something is so.

abbrev pub place_from : (Event → Bool) → ℕ → List Event → Option ℕ
place_from asks place [] = None
place_from asks place (e ∷ events) = if asks e then Some place else place_from asks (place + 1) events

abbrev pub place_of_first : (Event → Bool) → Script → Option ℕ
place_of_first asks script = place_from asks 0 script.events

-- Losses.

-- those that are due to hear a sender's frame in a slot, once clocks have jumped in it
abbrev pub is_to_hear : Medl → Script → List ℕ → ℕ → ℕ → ℕ → Bool
is_to_hear list script faulty sender slot r =
    is_other script (jumpers_in list script faulty slot ++ faulty) sender slot r

-- those of them that lose it, and the others
abbrev pub losers_in : Medl → Script → List ℕ → ℕ → ℕ → List ℕ
losers_in list script faulty sender slot =
    filter (λ r. is_to_hear list script faulty sender slot r && loses script sender slot r) (nodes_of list)

abbrev pub hearers_in : Medl → Script → List ℕ → ℕ → ℕ → List ℕ
hearers_in list script faulty sender slot =
    filter (λ r. is_to_hear list script faulty sender slot r && not (loses script sender slot r)) (nodes_of list)

-- a line is a send fault of the sender, or a receive fault of one of those that lost the frame, which covers the slot
abbrev pub may_cause_loss : ℕ → List ℕ → ℕ → Event → Bool
may_cause_loss sender lost slot (event.Send node channels f from to) = (node == sender) && covers from to slot
may_cause_loss sender lost slot (event.Receive node channels f from to) = has_node lost node && covers from to slot
may_cause_loss sender lost slot _ = false

-- the first such line
abbrev pub cause_of_loss : Medl → Script → List ℕ → ℕ → ℕ → Option ℕ
cause_of_loss list script faulty sender slot =
    place_of_first (may_cause_loss sender (losers_in list script faulty sender slot) slot) script

-- the nodes that are faulty at the beginning of a slot, by their numbers
abbrev pub faulty_in : Medl → Script → ClusterStart → ℕ → List ℕ
faulty_in list script start slot = numbers_of (faulty_at list script start slot)

-- the frame of a slot, and who lost it
abbrev pub lost_in : Medl → Script → ClusterStart → ℕ → LostFrame
lost_in list script start slot = record {
  slot = slot;
  sender = expected_sender list start slot;
  lost = losers_in list script (faulty_in list script start slot) (expected_sender list start slot) slot;
  heard = hearers_in list script (faulty_in list script start slot) (expected_sender list start slot) slot;
  cause = cause_of_loss list script (faulty_in list script start slot) (expected_sender list start slot) slot;
}

-- the frame of the slot that the rule on losses names
abbrev pub lost_frame : Medl → Script → ClusterStart → Option LostFrame
lost_frame list script start = option_map (lost_in list script start) (back_loss_broken list script start)

-- Faults.

-- a slot's faults in order: those by jumps, by their nodes, and then the one by a loss
abbrev pub new_faults_in : Medl → Script → ClusterStart → ℕ → List FaultyNode
new_faults_in list script start slot =
    map (λ k. record { slot = slot; node = k })
    (jumpers_in list script (faulty_in list script start slot) slot
    ++ nodes_made (loss_in list script start (faulty_in list script start slot) slot))

-- those of the first slots, so many
abbrev pub faults_before : Medl → Script → ClusterStart → ℕ → List FaultyNode
faults_before list script start zero = []
faults_before list script start (suc slot) =
    faults_before list script start slot ++ new_faults_in list script start slot

-- a line lets the clock of node k jump in a slot
abbrev pub is_jump_in : ℕ → ℕ → Event → Bool
is_jump_in k slot (event.Jump node value at) = (node == k) && (at == slot)
is_jump_in k slot _ = false

-- the line that caused a fault: the first that may have caused the slot's loss, where this made the node faulty, and
-- else the node's first jump in the slot
abbrev pub cause_of : Medl → Script → ClusterStart → FaultyNode → Option ℕ
cause_of list script start f =
    if has_node (nodes_made (loss_in list script start (faulty_in list script start f.slot) f.slot)) f.node
    then cause_of_loss list script (faulty_in list script start f.slot) (expected_sender list start f.slot) f.slot
    else place_of_first (is_jump_in f.node f.slot) script

-- Distances.

-- the slot of the start, or of the fault before
abbrev pub slot_since : Since → ℕ
slot_since (since.Start slot) = slot
slot_since (since.Fault slot node) = slot

-- a fault that came too early
abbrev pub early_by : (FaultyNode → Option ℕ) → ℕ → Since → FaultyNode → EarlyFault
early_by cause gap before f = record {
  slot = f.slot;
  node = f.node;
  earliest = slot_since before + gap;
  since = before;
  cause = cause f;
}

-- the first of some faults that lies less than so many slots behind the start or the one before it
abbrev pub first_early : (FaultyNode → Option ℕ) → ℕ → Since → List FaultyNode → Option EarlyFault
first_early cause gap before [] = None
first_early cause gap before (f ∷ faults) =
    if nat_lt f.slot (slot_since before + gap) then Some (early_by cause gap before f)
    else first_early cause gap (since.Fault f.slot f.node) faults

-- the first that lies less than two rounds behind
abbrev pub early_fault : Medl → Script → ClusterStart → Option EarlyFault
early_fault list script start =
    first_early (cause_of list script start) (2 * length list.slots) (since.Start start.slot)
    (faults_before list script start script.slots)

-- Nodes to measure.

-- the newest of some faults, behind one that may be there
abbrev pub newest_fault : Option FaultyNode → List FaultyNode → Option FaultyNode
newest_fault newest [] = newest
newest_fault newest (f ∷ faults) = newest_fault (Some f) faults

-- what caused a fault, if there is one
abbrev pub cause_if : (FaultyNode → Option ℕ) → Option FaultyNode → Option ℕ
cause_if cause None = None
cause_if cause (Some f) = cause f

-- who is left after the first slots, so many, and the cause of the newest fault in them
abbrev pub few_after : Medl → Script → ClusterStart → ℕ → ℕ → TooFew
few_after list script start slot count = record {
  slot = slot;
  left = filter (is_steady list script
      (numbers_of (faulty_since (slots_before list script start count)))) (nodes_of list);
  cause = cause_if (cause_of list script start) (newest_fault None (faults_before list script start count));
}

-- who is left in the slot that the rule names, and why: before it where the start lacks nodes, and else after it
abbrev pub few_in : Medl → Script → ClusterStart → ℕ → TooFew
few_in list script start slot =
    few_after list script start slot (if has_four_before list script start start.slot then suc slot else slot)

abbrev pub too_few_left : Medl → Script → ClusterStart → Option TooFew
too_few_left list script start = option_map (few_in list script start) (back_sync_broken list script start)
