use Rattle.std.proofs.Common.{◌≡◌, ◌++◌, length, take}
use Rattle.ttp_base.specs.Text.{lines_of}
use Rattle.whole_trace.specs.Steps.{IsInSlot}
use Rattle.whole_trace.specs.Whole.{with_shown_node, slots_from}
use Rattle.whole_trace.proofs.slots.shown_from.Given as goal

-- the nodes so far and those that are left make up the slot
abbrev pub invariant-loop-at : goal.invariant-loop-at
invariant-loop-at l =
    let left = (slots_from (lines_of l.at.rest.now)).front in record {
      nodes : (with_shown_node l.fn.first (slots_from (lines_of l.from.rest.now)).front).nodes
          ≡ take l.count l.nodes ++ left.nodes;
      hosts : (slots_from (lines_of l.from.rest.now)).front.hosts ≡ left.hosts;
      others : (slots_from (lines_of l.from.rest.now)).slots ≡ (slots_from (lines_of l.at.rest.now)).slots;
      place : IsInSlot l.count l.at.due (lines_of l.at.rest.now);
    }

abbrev pub decreases-loop-at : goal.decreases-loop-at
decreases-loop-at l = length l.at.rest.now
