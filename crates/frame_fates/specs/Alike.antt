-- What two runs have in common that differ in the messages of their frames alone.
use Rattle.std.specs.Prelude.{ℕ, List, map, Option, None, option_map}
use Rattle.ttp_world.specs.declared.node.Delivered.{Delivered}
use Rattle.ttp_world.specs.declared.node.Entry.{Entry}
use Rattle.ttp_world.specs.declared.node.Entry.TheVariants as entry
use Rattle.ttp_world.specs.Diary.{History}
use Rattle.ttp_world.specs.Past.{NodePast}

-- an entry without the number of the message that its frame carried
abbrev pub unnumbered : Entry → Entry
unnumbered (entry.Sent message) = entry.Sent None
unnumbered entry.Off = entry.Off
unnumbered entry.Waited = entry.Waited
unnumbered entry.Retried = entry.Retried
unnumbered entry.Gone = entry.Gone
unnumbered entry.Started = entry.Started
unnumbered (entry.Joined sender cstate deviation) = entry.Joined sender cstate deviation
unnumbered (entry.Judged sender verdict deviation) = entry.Judged sender verdict deviation
unnumbered (entry.Left reason peer) = entry.Left reason peer

-- a row without the numbers of messages
abbrev pub unnumbered_row : List Entry → List Entry
unnumbered_row row = map unnumbered row

-- a history without the numbers of messages
abbrev pub unnumbered_history : History → History
unnumbered_history history = map unnumbered_row history

-- a node's past without that number in its newest entry
abbrev pub unnumbered_past : NodePast → NodePast
unnumbered_past past = record {
  phase = past.phase;
  entry = unnumbered past.entry;
  place = past.place;
  members = past.members;
  accepted = past.accepted;
  rejected = past.rejected;
  ack = past.ack;
  cold_start = past.cold_start;
  limit = past.limit;
  silent_slots = past.silent_slots;
  offset = past.offset;
  notes = past.notes;
}

-- whose payload was delivered, if one was
abbrev pub sender_delivered : Option Delivered → Option ℕ
sender_delivered delivered = option_map (λ d. d.sender) delivered
