use Rattle.picture_text.proofs.Words.{◌≡◌, ◌≤◌, length, take, shown_memberships}
use Rattle.picture_text.proofs.members.memberships_of.Given as goal

-- the memberships of the nodes so far
abbrev pub invariant-loop-node : goal.invariant-loop-node
invariant-loop-node l = record {
  found : l.found ≡ shown_memberships (take l.node-index l.nodes);
  few : length l.found ≤ l.node-index;
}
