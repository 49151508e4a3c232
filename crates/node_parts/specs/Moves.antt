-- Moves: what a verdict asks of the members and counts of the node that gave it.
use Rattle.std.specs.Prelude.{◌≡◌, ◌≢◌, ◌↔◌, ℕ, ◌<◌, Bool, true, false, List}
use Rattle.ttp_base.specs.NodeSet.{most_nodes, with_node, without_node}
use Rattle.ttp_world.specs.declared.node.Ack.{Ack}
use Rattle.ttp_world.specs.declared.node.Ack.TheVariants as ack
use Rattle.ttp_world.specs.declared.node.Verdict.{Verdict}
use Rattle.ttp_world.specs.declared.node.Verdict.TheVariants as verdict
use Rattle.ttp_world.specs.Acknowledgement.{is_correct}
use Rattle.ttp_world.specs.After.{judged_members}
use Rattle.ttp_world.specs.Counts.{is_rejection}
use Rattle.node_parts.specs.declared.acknowledgement.moves.AckMove.{AckMove}
use Rattle.node_parts.specs.declared.acknowledgement.moves.AckMove.TheVariants.{Accept, Reject, Hold, Resolve, Leave}

-- the other node of a move is a node number
abbrev pub IsNodeMove : AckMove → Type 0
IsNodeMove Accept = Unit {0}
IsNodeMove (Reject counted) = Unit {0}
IsNodeMove Hold = Unit {0}
IsNodeMove (Resolve other) = other < most_nodes
IsNodeMove Leave = Unit {0}

-- What a move leads to. A node that leaves changes neither members nor counts.

-- the members: the sender is put in or out, and then the other node is taken out
abbrev pub moved_members : AckMove → List ℕ → ℕ → List ℕ
moved_members Accept members sender = with_node members sender
moved_members (Reject counted) members sender = without_node members sender
moved_members Hold members sender = with_node members sender
moved_members (Resolve other) members sender = without_node (with_node members sender) other
moved_members Leave members sender = members

-- one more frame is accepted, or rejected
abbrev pub adds_accepted : AckMove → Bool
adds_accepted Accept = true
adds_accepted (Reject counted) = false
adds_accepted Hold = false
adds_accepted (Resolve other) = true
adds_accepted Leave = false

abbrev pub adds_rejected : AckMove → Bool
adds_rejected Accept = false
adds_rejected (Reject counted) = counted
adds_rejected Hold = false
adds_rejected (Resolve other) = true
adds_rejected Leave = false

-- Which move a verdict asks for.

-- a verdict that a state can't have is taken as Incorrect
abbrev pub taken_verdict : Ack → Verdict → Verdict
taken_verdict ack.First verdict.Tentative = verdict.Tentative
taken_verdict _ verdict.Tentative = verdict.Incorrect
taken_verdict (ack.Doubt x) verdict.Denied = verdict.Denied
taken_verdict _ verdict.Denied = verdict.Incorrect
taken_verdict _ v = v

-- of a correct frame: it settles a doubt
abbrev pub settling_move : Ack → AckMove
settling_move ack.Closed = Accept
settling_move ack.First = Accept
settling_move (ack.Doubt x) = Resolve x

-- what a verdict asks for
abbrev pub move_of : Ack → Verdict → AckMove
move_of a verdict.Correct = settling_move a
move_of a verdict.Tentative = Hold
move_of a verdict.Denied = Leave
move_of a v = Reject (is_rejection a v)

-- a doubt is not about this sender, as in the diaries of a world, where the doubted node sends again only after the
-- node's own slot
abbrev pub IsDoubtElsewhere : Ack → ℕ → Type 0
IsDoubtElsewhere ack.Closed sender = Unit {0}
IsDoubtElsewhere ack.First sender = Unit {0}
IsDoubtElsewhere (ack.Doubt x) sender = x ≢ sender

-- a move leads to the members and counts that the verdict on this sender leads to by the acknowledgement before it; the
-- node leaves exactly where it is denied
pub record IsMoveOf (move : AckMove) (a : Ack) (v : Verdict) (sender : ℕ) : Type 0 where
  pub leaves : (move ≡ Leave) ↔ (v ≡ verdict.Denied)
  pub accepts : adds_accepted move ≡ is_correct v
  pub rejects : adds_rejected move ≡ is_rejection a v
  pub members : (members : List ℕ) → v ≢ verdict.Denied → IsDoubtElsewhere a sender
      → moved_members move members sender ≡ judged_members members a v sender
