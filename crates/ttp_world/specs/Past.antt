-- What the rules ask of a node's past, read from its diary and its surroundings.
--
-- The rules of conduct are functions of this record. An active node's part of it is that of its stint: in every other
-- phase there is no place, no member, no count and no note, and the acknowledgement is closed.
use Rattle.std.specs.Prelude.{ℕ, ◌+◌, ◌*◌, ℤ, Bool, true, false, List, [], ◌∷◌, length, Option, Some, if◌then◌else◌}
use Rattle.ttp_world.specs.declared.medl.Medl.{Medl}
use Rattle.ttp_world.specs.declared.node.Ack.{Ack}
use Rattle.ttp_world.specs.declared.node.Entry.{Entry}
use Rattle.ttp_world.specs.declared.node.Entry.TheVariants as entry
use Rattle.ttp_world.specs.declared.node.NodeState.{NodeState}
use Rattle.ttp_world.specs.declared.node.Phase.{Phase}
use Rattle.ttp_world.specs.Acknowledgement.{newest_sent_or_joined, ack_of}
use Rattle.ttp_world.specs.Clock.{notes_of, offset_of}
use Rattle.ttp_world.specs.Counts.{accepted_of, rejected_of}
use Rattle.ttp_world.specs.Diary.{Diary, Surroundings, newest_entry, phase_of, is_active, Place, place_of}
use Rattle.ttp_world.specs.Membership.{members_of}

-- Cold starts.

-- an active node's newest own frame was its cold start
abbrev pub is_start : Option Entry → Bool
is_start (Some entry.Started) = true
is_start _ = false

abbrev pub cold_start_of : Diary → Bool
cold_start_of diary = elim (is_active diary) [ true ↦ is_start (newest_sent_or_joined diary) | false ↦ false ]

-- a node has withdrawn its cold start since it last left
abbrev pub retried_of : Diary → Bool
retried_of [] = false
retried_of (entry.Retried ∷ diary) = true
retried_of (entry.Left reason peer ∷ diary) = false
retried_of (entry.Gone ∷ diary) = false
retried_of (e ∷ diary) = retried_of diary

-- how many silent slots in a row make node k start: n + k where it withdrew a cold start, and else 2n + k
abbrev pub limit_of : Medl → ℕ → Diary → ℕ
limit_of list k diary = if retried_of diary then length list.slots + k else 2 * length list.slots + k

-- how many of the last slots, one after the other, were slots in which the node listened and both channels were silent
abbrev pub silent_slots_of : Diary → Surroundings → ℕ
silent_slots_of (entry.Waited ∷ diary) (s ∷ surroundings) =
    elim s.is_silent [ true ↦ 1 + silent_slots_of diary surroundings | false ↦ 0 ]
silent_slots_of _ _ = 0

-- what the rules ask of a node's past: all that is read of its diary and of what came from outside
pub record NodePast : Type 0 where
  pub phase : Phase
  -- what the node did in the newest slot
  pub entry : Entry
  -- the place of that slot
  pub place : Place
  pub members : List ℕ
  pub accepted : ℕ
  pub rejected : ℕ
  pub ack : Ack
  pub cold_start : Bool
  -- how many silent slots it waits for, and how many there were
  pub limit : ℕ
  pub silent_slots : ℕ
  -- its clock after that slot
  pub offset : ℤ
  -- the notes of that slot's round, the newest first
  pub notes : List ℤ

-- of node k
abbrev pub past_of : Medl → ℕ → Diary → Surroundings → NodePast
past_of list k diary surroundings = record {
  phase = phase_of diary;
  entry = newest_entry diary;
  place = place_of list k diary;
  members = members_of list k diary;
  accepted = accepted_of diary;
  rejected = rejected_of diary;
  ack = ack_of diary;
  cold_start = cold_start_of diary;
  limit = limit_of list k diary;
  silent_slots = silent_slots_of diary surroundings;
  offset = offset_of list k diary surroundings;
  notes = notes_of list k diary;
}

-- what is shown of a node
abbrev pub state_of : NodePast → NodeState
state_of past = record {
  phase = past.phase;
  entry = past.entry;
  members = past.members;
  accepted = past.accepted;
  rejected = past.rejected;
  ack = past.ack;
  offset = past.offset;
}

-- a node before its first slot
abbrev pub no_past : Medl → ℕ → NodePast
no_past list k = past_of list k [] []
