use Rattle.picture_text.proofs.Words.{◌≡◌, ◌≤◌, ◌+◌, ◌*◌, ◌++◌, length, filter, below, node_at, each_node, holds}
use Rattle.picture_text.proofs.members_cell.put_holders.Given as goal

-- the holders so far were added
abbrev pub invariant-loop-k : goal.invariant-loop-k
invariant-loop-k l = record {
  text : l.line ≡ l.fn.line ++ each_node (filter (λ k. holds l.members (node_at l.slot k)) (below l.k));
  short : length l.line ≤ length l.fn.line + 4 * l.k;
}
