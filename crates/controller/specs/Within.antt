-- What the numbers of the list bound of a node's past, and of its next entry.
use Rattle.std.specs.Prelude.{◌≡◌, ◌≢◌, ℕ, ◌+◌, ◌-◌, ◌*◌, ◌<◌, ◌≤◌, nat_lt, ◌^◌, ℤ, pos, neg_ℤ, ◌≤ℤ◌, All, IsTrue}
use Rattle.std.specs.Prelude.{length, if◌then◌else◌}
use Rattle.ttp_world.specs.declared.medl.Medl.{Medl}
use Rattle.ttp_world.specs.declared.node.Ack.{Ack}
use Rattle.ttp_world.specs.declared.node.Ack.TheVariants as ack
use Rattle.ttp_world.specs.declared.node.CState.{CState}
use Rattle.ttp_world.specs.declared.node.Entry.{Entry}
use Rattle.ttp_world.specs.declared.node.Entry.TheVariants as entry
use Rattle.ttp_world.specs.declared.node.Verdict.{Verdict}
use Rattle.ttp_world.specs.declared.node.Verdict.TheVariants as verdict
use Rattle.ttp_world.specs.Acknowledgement.{is_correct}
use Rattle.ttp_world.specs.Act.{coming_place}
use Rattle.ttp_world.specs.Diary.{phase_after, SlotSurroundings}
use Rattle.ttp_world.specs.Membership.{AreNodes}
use Rattle.ttp_world.specs.Past.{NodePast}
use Rattle.node_parts.specs.Moves.{taken_verdict}
use Rattle.node_parts.specs.Notes.{kept_notes, IsDeviation}

-- how many slots node k's own slot comes after a slot of the list: a whole round after its own
abbrev pub slots_to_own : Medl → ℕ → ℕ → ℕ
slots_to_own list k slot = if nat_lt slot k then k - slot else length list.slots + k - slot

-- after a slot a doubt of node k is about a node of the list that had its slot since k's own
abbrev pub IsAckWithin : Medl → ℕ → ℕ → Ack → Type 0
IsAckWithin list k slot ack.Closed = Unit {0}
IsAckWithin list k slot ack.First = Unit {0}
IsAckWithin list k slot (ack.Doubt x) = (x < length list.slots) × (slots_to_own list k slot ≤ slots_to_own list k x)

-- a deviation that lies within the list's window
abbrev pub IsNearEnough : Medl → ℤ → Type 0
IsNearEnough list deviation = (neg_ℤ list.window ≤ℤ deviation) × (deviation ≤ℤ list.window)

-- what node k can keep of its past: its counts begin anew with its own slot
pub record IsPastWithin (list : Medl) (k : ℕ) (past : NodePast) : Type 0 where
  pub phase : past.phase ≡ phase_after past.entry
  pub round : past.place.round < list.rounds
  pub slot : past.place.slot < length list.slots
  pub members : AreNodes list past.members
  pub accepted : past.accepted + slots_to_own list k past.place.slot ≤ length list.slots + 1
  pub rejected : past.rejected + slots_to_own list k past.place.slot ≤ length list.slots
  pub ack : IsAckWithin list k past.place.slot past.ack
  pub limit : past.limit ≤ 3 * length list.slots
  pub few : length past.notes ≤ kept_notes
  pub notes : All (IsNearEnough list) past.notes

-- Entries.

-- a C-state of a place of the list, with nodes of the list for members
pub record IsCStateWithin (list : Medl) (cstate : CState) : Type 0 where
  pub round : cstate.round < list.rounds
  pub slot : cstate.slot < length list.slots
  pub members : AreNodes list cstate.members

-- node k may judge its coming slot so, and stay
pub record IsJudgedWithin (list : Medl) (k : ℕ) (past : NodePast) (sender : ℕ) (v : Verdict)
    (deviation : ℤ) : Type 0 where
  pub coming : sender ≡ (coming_place list past).slot
  pub another : sender ≢ k
  pub stays : v ≢ verdict.Denied
  pub possible : taken_verdict past.ack v ≡ v
  pub near : IsTrue (is_correct v) → IsNearEnough list deviation

-- node k may make this entry next
abbrev pub IsEntryWithin : Medl → ℕ → NodePast → Entry → Type 0
IsEntryWithin list k past (entry.Joined sender cstate deviation) = IsCStateWithin list cstate × IsDeviation deviation
IsEntryWithin list k past (entry.Judged sender v deviation) = IsJudgedWithin list k past sender v deviation
IsEntryWithin list k past _ = Unit {0}

-- the clock's changes from outside lie within 2^60 of 0
pub record AreChangesWithin (s : SlotSurroundings) : Type 0 where
  pub jump : IsDeviation s.jump
  pub drift : IsDeviation s.drift

-- so a clock changes in a slot by less than 2^62
abbrev pub IsChange : ℤ → Type 0
IsChange z = (neg_ℤ (pos (2 ^ 62)) ≤ℤ z) × (z ≤ℤ pos (2 ^ 62))
