use Rattle.std.proofs.Common.{◌≡◌, ℕ, ◌+◌, ◌<◌, ◌≤◌, max, length, get_or}
use Rattle.ttp_base.specs.NodeSet.{most_nodes}
use Rattle.ttp_world.specs.declared.events.Standing.{Standing}
use Rattle.ttp_world.specs.Script.{incidents_of}
use Rattle.hypothesis.specs.SlotIncidents.{IsOfKinds}
use Rattle.hypothesis.proofs.incidents.look_up.Given as goal

-- there is room for all nodes, the nodes so far are looked up, and the others are as they were
abbrev pub invariant-loop-node : goal.invariant-loop-node
invariant-loop-node l = record {
  room : length l.incidents.nodes ≡ 24;
  done : (k t : ℕ) (nothing : Standing) → k < l.node → l.slot ≤ t
      → t < max (get_or l.incidents.nodes k nothing).until (l.slot + 1)
      → incidents_of l.script k t ≡ (get_or l.incidents.nodes k nothing).incidents;
  left : (k t : ℕ) (nothing : Standing) → l.node ≤ k → k < most_nodes → l.slot ≤ t
      → t < (get_or l.incidents.nodes k nothing).until
      → incidents_of l.script k t ≡ (get_or l.incidents.nodes k nothing).incidents;
  least : (k : ℕ) (nothing : Standing) → k < l.node → l.until ≤ (get_or l.incidents.nodes k nothing).until;
  kinds : (k : ℕ) → k < l.node → IsOfKinds l.kinds (incidents_of l.script k l.slot);
}
