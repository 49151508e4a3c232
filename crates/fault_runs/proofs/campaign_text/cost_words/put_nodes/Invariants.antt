use Rattle.std.proofs.Common.{◌≡◌, ◌++◌, ◌≤◌, length}
use Rattle.std.specs.Prelude.{map, filter}
use Rattle.std.specs.Fmt.{decimal}
use Rattle.ttp_base.specs.NodeSet.{below, has_node}
use Rattle.fault_runs.proofs.Listing.{joined}
use Rattle.fault_runs.proofs.campaign_text.cost_words.put_nodes.Given as goal

-- the words so far, and how many they are
abbrev pub invariant-loop-node : goal.invariant-loop-node
invariant-loop-node l =
    (l.text ≡ l.initial.text ++ joined (map decimal (filter (has_node l.nodes) (below l.node))))
    × (l.place ≡ length (filter (has_node l.nodes) (below l.node)))
    × (l.place ≤ l.node)
