use Rattle.std.proofs.Common.{◌≡◌, length}
use Rattle.ttp_base.specs.Text.{lines_of}
use Rattle.whole_trace.specs.Steps.{IsSlotPlace}
use Rattle.whole_trace.specs.Whole.{slots_from}
use Rattle.whole_trace.proofs.slots.behind_hosts.Given as goal

abbrev pub invariant-loop-behind : goal.invariant-loop-behind
invariant-loop-behind l = record {
  slots : (slots_from (lines_of l.at.rest.now)).slots ≡ (slots_from (lines_of l.from.rest.now)).slots;
  place : IsSlotPlace l.at.due (lines_of l.at.rest.now);
}

abbrev pub decreases-loop-behind : goal.decreases-loop-behind
decreases-loop-behind l = length l.at.rest.now
