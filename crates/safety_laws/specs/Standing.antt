-- What an active node holds after a slot, that a node has left, and that one has waited.
use Rattle.std.specs.Prelude.{◌≡◌, ℕ, ◌+◌, ℤ, Bool, false, List, [], Option, if◌then◌else◌}
use Rattle.ttp_base.specs.NodeSet.{with_node}
use Rattle.ttp_world.specs.declared.medl.Medl.{Medl}
use Rattle.ttp_world.specs.declared.node.Ack.{Ack}
use Rattle.ttp_world.specs.declared.node.Ack.TheVariants as ack
use Rattle.ttp_world.specs.declared.node.Entry.{Entry}
use Rattle.ttp_world.specs.declared.node.Entry.TheVariants as entry
use Rattle.ttp_world.specs.declared.node.Phase.TheVariants as phase
use Rattle.ttp_world.specs.declared.node.Reason.{Reason}
use Rattle.ttp_world.specs.declared.node.Verdict.{Verdict}
use Rattle.ttp_world.specs.Acknowledgement.{is_correct}
use Rattle.ttp_world.specs.After.{judged_members, ack_answered, notes_after}
use Rattle.ttp_world.specs.Clock.{notes_in}
use Rattle.ttp_world.specs.Counts.{is_rejection}
use Rattle.ttp_world.specs.Diary.{Place, cstate_at}
use Rattle.ttp_world.specs.Past.{NodePast}
use Rattle.safety_laws.specs.NodeSlot.{NodeSlot, next_past, slot_place, owner_of}

-- what an active node holds after a slot: its place, its members, its counts, its acknowledgement and its notes
pub record Standing : Type 0 where
  pub place : Place
  pub members : List ℕ
  pub accepted : ℕ
  pub rejected : ℕ
  pub ack : Ack
  pub cold_start : Bool
  pub notes : List ℤ

-- by this entry a node is active, and holds this
pub record StandsBy (past : NodePast) (e : Entry) (now : Standing) : Type 0 where
  pub phase : past.phase ≡ phase.Active
  pub entry : past.entry ≡ e
  pub place : past.place ≡ now.place
  pub members : past.members ≡ now.members
  pub accepted : past.accepted ≡ now.accepted
  pub rejected : past.rejected ≡ now.rejected
  pub ack : past.ack ≡ now.ack
  pub cold_start : past.cold_start ≡ now.cold_start
  pub notes : past.notes ≡ now.notes

-- the node has left in its newest slot
pub record HasJustLeft (past : NodePast) (why : Reason) (peer : ℕ) : Type 0 where
  pub phase : past.phase ≡ phase.Left
  pub entry : past.entry ≡ entry.Left why peer
  pub members : past.members ≡ []
  pub ack : past.ack ≡ ack.Closed

-- A judgement: what a verdict other than Denied makes of what the node holds.

-- what a verdict other than Denied makes of what the node holds
abbrev pub judged_standing : NodeSlot → Verdict → ℤ → Standing
judged_standing x v deviation = record {
  place = slot_place x;
  members = judged_members x.past.members x.past.ack v (owner_of x);
  accepted = (if is_correct v then 1 else 0) + x.past.accepted;
  rejected = (if is_rejection x.past.ack v then 1 else 0) + x.past.rejected;
  ack = ack_answered x.past.ack v (owner_of x);
  cold_start = x.past.cold_start;
  notes = notes_after x.list x.past.notes (slot_place x) (entry.Judged (owner_of x) v deviation);
}

-- after the slot the node has judged its owner so
abbrev pub IsJudgedAs : NodeSlot → Verdict → ℤ → Type 0
IsJudgedAs x v deviation =
    StandsBy (next_past x) (entry.Judged (owner_of x) v deviation) (judged_standing x v deviation)

-- The node's own frame.
abbrev pub sent_standing : NodeSlot → Option ℕ → Standing
sent_standing x message = record {
  place = slot_place x;
  members = with_node x.past.members x.node;
  accepted = 1;
  rejected = 0;
  ack = ack.First;
  cold_start = false;
  notes = notes_after x.list x.past.notes (slot_place x) (entry.Sent message);
}

-- A join: the entry of a node that hears of a place and of these members, so late, and what it holds.

-- the entry of a node that hears of a place and of these members, so late
abbrev pub joined_on : Place → List ℕ → ℤ → Entry
joined_on place members deviation = entry.Joined place.slot (cstate_at place members) deviation

-- what it then holds
abbrev pub joined_standing : Medl → Place → List ℕ → ℤ → Standing
joined_standing list place members deviation = record {
  place = place;
  members = members;
  accepted = 1;
  rejected = 0;
  ack = ack.Closed;
  cold_start = false;
  notes = notes_in list place (joined_on place members deviation);
}

-- A listening node that does not join counts the slot if it was silent, and else begins again to count.
pub record HasWaited (x : NodeSlot) : Type 0 where
  pub phase : (next_past x).phase ≡ phase.Listening
  pub silent_slots : (next_past x).silent_slots ≡ (if x.around.is_silent then 1 + x.past.silent_slots else 0)
  pub limit : (next_past x).limit ≡ x.past.limit
