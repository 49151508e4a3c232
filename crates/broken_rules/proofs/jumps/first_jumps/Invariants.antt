use Rattle.std.proofs.Common.{◌≡◌, ℕ, ◌<◌, None, get_or, length}
use Rattle.std.specs.Prelude.{drop}
use Rattle.std.specs.List.{filter_map}
use Rattle.ttp_base.specs.NodeSet.{most_nodes}
use Rattle.ttp_world.specs.Hypothesis.{least_of}
use Rattle.broken_rules.proofs.FromBelow.{lesser_of}
use Rattle.broken_rules.specs.Jumps.{jump_slot, first_jump}
use Rattle.broken_rules.proofs.jumps.first_jumps.Given as goal

-- the least so far and that of the events that are left is that of all
abbrev pub invariant-loop-event : goal.invariant-loop-event
invariant-loop-event l = record {
  room : length l.slots ≡ most_nodes;
  left : (k : ℕ) → k < most_nodes
      → lesser_of (get_or l.slots k None) (least_of (filter_map (jump_slot k) (drop l.event-index l.script.events)))
      ≡ first_jump l.script k;
}
