use Rattle.picture_text.proofs.Words.{◌≡◌, ◌≤◌, ◌+◌, ◌*◌, ◌++◌, length, take, flat_map, membership_text}
use Rattle.picture_text.proofs.members_cell.put_memberships.Given as goal

-- the memberships so far were added
abbrev pub invariant-loop-members : goal.invariant-loop-members
invariant-loop-members l = record {
  text : l.long ≡ l.fn.long ++ flat_map (membership_text l.head l.slot) (take l.members-index l.words);
  short : length l.long ≤ length l.fn.long + 110 * l.members-index;
}
