use Rattle.std.proofs.Common.{◌≡◌, ◌≤◌, ℕ, length}
use Rattle.ttp_base.specs.Text.{lines_of}
use Rattle.whole_trace.specs.Steps.{IsInSlot}
use Rattle.whole_trace.specs.Whole.{slots_from}
use Rattle.whole_trace.proofs.slots.behind_nodes.Given as goal

-- the lines of some nodes were passed over, that of node 0 among them
abbrev pub invariant-loop-at : goal.invariant-loop-at
invariant-loop-at l =
    let left = slots_from (lines_of l.at.rest.now) in record {
      hosts : (slots_from (lines_of l.from.rest.now)).front.hosts ≡ left.front.hosts;
      others : (slots_from (lines_of l.from.rest.now)).slots ≡ left.slots;
      place : (count : ℕ) × (1 ≤ count) × IsInSlot count l.at.due (lines_of l.at.rest.now);
    }

abbrev pub decreases-loop-at : goal.decreases-loop-at
decreases-loop-at l = length l.at.rest.now
