use Rattle.picture_text.proofs.Words.{◌≡◌, ◌≤◌, length, filter, below, node_at, holds}
use Rattle.picture_text.proofs.members.count_holders.Given as goal

-- the holders so far
abbrev pub invariant-loop-k : goal.invariant-loop-k
invariant-loop-k l = record {
  count : l.count ≡ length (filter (λ k. holds l.members (node_at l.slot k)) (below l.k));
  few : l.count ≤ l.k;
}
