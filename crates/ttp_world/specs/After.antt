-- What one more entry changes of what is read of node k's past, field by field, from the fields before it.
--
-- `proofs/` has the laws: where an entry may follow a diary, each field that is read of both together is this one.
use Rattle.std.specs.Prelude.{ℕ, ◌+◌, ◌*◌, ℤ, pos, ◌+ℤ◌, Bool, true, false, List, [], ◌++◌, length, filter, unwrap_or}
use Rattle.std.specs.Prelude.{if◌then◌else◌}
use Rattle.ttp_base.specs.NodeSet.{below, has_node, with_node, without_node}
use Rattle.ttp_world.specs.declared.medl.Medl.{Medl}
use Rattle.ttp_world.specs.declared.node.Ack.{Ack}
use Rattle.ttp_world.specs.declared.node.Ack.TheVariants as ack
use Rattle.ttp_world.specs.declared.node.Entry.{Entry}
use Rattle.ttp_world.specs.declared.node.Entry.TheVariants as entry
use Rattle.ttp_world.specs.declared.node.Verdict.{Verdict}
use Rattle.ttp_world.specs.declared.node.Verdict.TheVariants as verdict
use Rattle.ttp_world.specs.Acknowledgement.{is_correct}
use Rattle.ttp_world.specs.Clock.{notes_in, begins_round, fta, is_corrected, slot_change}
use Rattle.ttp_world.specs.Counts.{is_rejection}
use Rattle.ttp_world.specs.Diary.{SlotSurroundings, phase_after, is_active_phase, Place, no_place, start_place}
use Rattle.ttp_world.specs.Diary.{joined_place, next_place}
use Rattle.ttp_world.specs.Membership.{opinion}
use Rattle.ttp_world.specs.Past.{NodePast}

-- an entry after which the node is active
abbrev pub is_active_entry : Entry → Bool
is_active_entry e = is_active_phase (phase_after e)

-- the place after an entry
abbrev pub place_after : Medl → ℕ → Place → Entry → Place
place_after list k place entry.Started = start_place k
place_after list k place (entry.Joined sender cstate deviation) = joined_place cstate
place_after list k place (entry.Sent message) = next_place list place
place_after list k place (entry.Judged sender v deviation) = next_place list place
place_after list k place _ = no_place

-- a set of members, by what an entry says of each node
abbrev pub opined_members : Medl → ℕ → List ℕ → Ack → Entry → List ℕ
opined_members list k members a e =
    filter (λ j. unwrap_or (opinion k j e a) (has_node members j)) (below (length list.slots))

-- the members after an entry
abbrev pub members_after : Medl → ℕ → List ℕ → Ack → Entry → List ℕ
members_after list k members a e = if is_active_entry e then opined_members list k members a e else []

-- the members that a verdict leaves, as a set with nodes put in and taken out: a correct frame settles a doubt
abbrev pub settled_members : List ℕ → Ack → List ℕ
settled_members members (ack.Doubt x) = without_node members x
settled_members members _ = members

abbrev pub judged_members : List ℕ → Ack → Verdict → ℕ → List ℕ
judged_members members a verdict.Correct sender = with_node (settled_members members a) sender
judged_members members a verdict.Tentative sender = with_node members sender
judged_members members a _ sender = without_node members sender

-- the accepted frames after an entry
abbrev pub accepted_after : ℕ → Entry → ℕ
accepted_after count entry.Started = 1
accepted_after count (entry.Sent message) = 1
accepted_after count (entry.Joined sender cstate deviation) = 1
accepted_after count (entry.Judged sender v deviation) = (if is_correct v then 1 else 0) + count
accepted_after count _ = 0

-- the rejected frames after an entry
abbrev pub rejected_after : ℕ → Ack → Entry → ℕ
rejected_after count a (entry.Judged sender v deviation) = (if is_rejection a v then 1 else 0) + count
rejected_after count a _ = 0

-- an open acknowledgement is closed by a correct frame, and put in doubt by a tentative one
abbrev pub ack_answered : Ack → Verdict → ℕ → Ack
ack_answered ack.Closed v sender = ack.Closed
ack_answered a verdict.Correct sender = ack.Closed
ack_answered a verdict.Tentative sender = ack.Doubt sender
ack_answered a _ sender = a

-- the acknowledgement after an entry
abbrev pub ack_after : Ack → Entry → Ack
ack_after a entry.Started = ack.First
ack_after a (entry.Sent message) = ack.First
ack_after a (entry.Judged sender v deviation) = ack_answered a v sender
ack_after a _ = ack.Closed

-- whether the newest own frame is a cold start, after an entry
abbrev pub cold_start_after : Bool → Entry → Bool
cold_start_after cold entry.Started = true
cold_start_after cold (entry.Judged sender v deviation) = cold
cold_start_after cold _ = false

-- how many silent slots node k waits for, after an entry
abbrev pub limit_after : Medl → ℕ → ℕ → Entry → ℕ
limit_after list k limit entry.Retried = length list.slots + k
limit_after list k limit (entry.Left reason peer) = 2 * length list.slots + k
limit_after list k limit entry.Gone = 2 * length list.slots + k
limit_after list k limit _ = limit

-- how many of the newest slots it waited in silence, after an entry
abbrev pub silent_slots_after : ℕ → Entry → Bool → ℕ
silent_slots_after count entry.Waited silent = if silent then 1 + count else 0
silent_slots_after count _ silent = 0

-- by the place after the entry
abbrev pub notes_after : Medl → List ℤ → Place → Entry → List ℤ
notes_after list notes place e =
    if is_active_entry e then notes_in list place e ++ (if begins_round place e then [] else notes) else []

-- by the place and the notes after the entry
abbrev pub correction_after : Medl → Place → List ℤ → Entry → ℤ
correction_after list place notes e = if is_corrected list (phase_after e) place then fta notes else pos 0

-- the clock after an entry, in microticks
abbrev pub offset_after : Medl → ℤ → Place → List ℤ → Entry → SlotSurroundings → ℤ
offset_after list offset place notes e s = offset +ℤ slot_change e s (correction_after list place notes e)

-- the whole record, by the entry and what came from outside in its slot
abbrev pub past_after : Medl → ℕ → NodePast → Entry → SlotSurroundings → NodePast
past_after list k past e s =
    let place = place_after list k past.place e in
    let notes = notes_after list past.notes place e in
    record {
      phase = phase_after e;
      entry = e;
      place = place;
      members = members_after list k past.members past.ack e;
      accepted = accepted_after past.accepted e;
      rejected = rejected_after past.rejected past.ack e;
      ack = ack_after past.ack e;
      cold_start = cold_start_after past.cold_start e;
      limit = limit_after list k past.limit e;
      silent_slots = silent_slots_after past.silent_slots e s.is_silent;
      offset = offset_after list past.offset place notes e s;
      notes = notes;
    }
