-- What the report of a slot shows: the world's slot for the numbers in it.
use Rattle.std.specs.Prelude.{◌≡◌, ℕ, ◌+◌, ◌<◌, ◌==◌, List, [], ◌∷◌, map, length, get_or, count_by, Option, None}
use Rattle.std.specs.Prelude.{option_map}
use Rattle.ttp_base.specs.NodeSet.{below}
use Rattle.ttp_world.specs.declared.medl.Medl.{Medl}
use Rattle.ttp_world.specs.declared.node.Entry.{Entry}
use Rattle.ttp_world.specs.declared.node.Entry.TheVariants as entry
use Rattle.ttp_world.specs.declared.script.Script.{Script}
use Rattle.ttp_world.specs.Diary.{History}
use Rattle.ttp_world.specs.Legal.{ReadMessage, read_messages}
use Rattle.ttp_world.specs.Messages.{message_of, delivered_of}
use Rattle.ttp_world.specs.Outgoing.{messages_before}
use Rattle.ttp_world.specs.Past.{state_of}
use Rattle.ttp_world.specs.Script.{HostWrite, writes_in, reads_in}
use Rattle.ttp_world.specs.Trace.{message_shown, number_delivered}
use Rattle.ttp_world.specs.World.{SlotNumbers, Numbers, node_past, world}
use Rattle.controller.specs.Passes.{StandAfter}
use Rattle.controller.specs.PlantWithin.{IsEnded, AreSeats}
use Rattle.controller.specs.declared.seat.Seat.{Seat}
use Rattle.host_port.specs.declared.report.NodeLine.{NodeLine}
use Rattle.host_port.specs.declared.report.ReadLine.{ReadLine}
use Rattle.host_port.specs.declared.report.SlotReport.{SlotReport}
use Rattle.host_port.specs.declared.report.WriteLine.{WriteLine}
use Rattle.cluster_run.specs.NextSlots.{next_row}
use Rattle.cluster_run.specs.Rings.{pair_read}

-- the numbers in a report: those of the messages in frames, and of the messages that were read
abbrev pub report_numbers : SlotReport → SlotNumbers
report_numbers report = record {
  sent = map (λ line. message_of line.state.entry) report.nodes;
  read = map (λ line. line.pair.number) report.reads;
}

-- Node lines.

-- the message that the line of an entry names, where the message of this number was delivered, if one was
abbrev pub message_named : Entry → Option ℕ → Option ℕ
message_named (entry.Sent message) delivered = message
message_named (entry.Judged sender v deviation) delivered = delivered
message_named _ delivered = None

-- the number, in its ring, of what node k delivers in the slot of a row
abbrev pub number_told : Medl → Script → List Entry → History → ℕ → Option ℕ
number_told list script row before k =
    option_map (number_delivered list script (row ∷ before) k) (delivered_of list script before row k)

-- The controllers of all nodes have ended the slot of a row, and these are the numbers of what they delivered in it.
pub record HaveEndedSlot (list : Medl) (script : Script) (row : List Entry) (before : History) (seats : List Seat)
    (delivered : List (Option ℕ)) : Type 0 where
  pub bound : ℕ
  pub seats_are : AreSeats list IsEnded bound 0 seats
  pub stand : StandAfter script (row ∷ before) 0 seats
  pub numbers : (k : ℕ) → k < length seats → get_or delivered k None ≡ number_told list script row before k

-- the line of node k after the slot of a row
abbrev pub node_shown : Medl → Script → List Entry → History → ℕ → NodeLine
node_shown list script row before k =
    let state = state_of (node_past list script (row ∷ before) k) in
    record { state = state; message = message_shown list script row before k state.entry }

-- Host lines.

-- a message's number follows those that its host wrote before, in earlier slots and earlier in this one
abbrev pub write_shown : Medl → Script → ℕ → ℕ → ℕ → WriteLine
write_shown list script slot k earlier =
    record { host = k; number = length (messages_before list script k slot) + earlier }

-- of these writes of a slot, where those came before them
abbrev pub writes_shown : Medl → Script → ℕ → List HostWrite → List HostWrite → List WriteLine
writes_shown list script slot earlier [] = []
writes_shown list script slot earlier (w ∷ ws) =
    write_shown list script slot w.host (count_by (λ e. e.host == w.host) earlier)
    ∷ writes_shown list script slot (w ∷ earlier) ws

-- a read of a history that ends with its slot
abbrev pub read_shown : Medl → Script → History → ReadMessage → ReadLine
read_shown list script history r =
    record { host = r.read.host; source = r.read.source; pair = pair_read list script history r }

-- the report of the slot of a row for these numbers: a line for each node, one for each write, and one for each read
pub record ShowsSlot (list : Medl) (script : Script) (row : List Entry) (before : History) (new : SlotNumbers)
    (report : SlotReport) : Type 0 where
  pub slot : report.slot ≡ length before
  pub nodes : report.nodes ≡ map (node_shown list script row before) (below (length list.slots))
  pub writes : report.writes ≡ writes_shown list script (length before) [] (writes_in script (length before))
  pub reads : report.reads
      ≡ map (read_shown list script (row ∷ before)) (read_messages (reads_in script (length before)) new.read)

-- the report of the slot after the world of some numbers is the world's for the numbers in it
abbrev pub ShowsNext : Medl → Script → Numbers → SlotReport → Type 0
ShowsNext list script numbers report =
    ShowsSlot list script (next_row list script (report_numbers report) numbers) (world list script numbers)
    (report_numbers report) report
