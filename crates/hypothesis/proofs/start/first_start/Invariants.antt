use Rattle.hypothesis.proofs.Words.{◌≡◌, ◌+◌, ◌-◌, ◌*◌, ◌<◌, length, IfSome, filter_map, range_with_len, most_nodes}
use Rattle.hypothesis.proofs.Words.{SLOT_LIMIT, nodes_of, least_of, start_slot}
use Rattle.hypothesis.proofs.Least.{lesser_of}
use Rattle.hypothesis.proofs.start.first_start.Given as goal

-- the least so far and that of the nodes that are left is that of all
abbrev pub invariant-loop-node : goal.invariant-loop-node
invariant-loop-node l =
    (lesser_of l.least
    (least_of (filter_map (start_slot l.list l.script) (range_with_len l.node (length l.list.slots - l.node))))
    ≡ least_of (filter_map (start_slot l.list l.script) (nodes_of l.list)))
    × IfSome l.least (λ slot. slot < SLOT_LIMIT + 3 * most_nodes)
