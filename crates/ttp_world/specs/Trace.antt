-- The text of a trace, line by line.
use Rattle.std.specs.Prelude.{ℕ, ◌+◌, ◌*◌, ◌==◌, List, [], ◌∷◌, ◌++◌, map, length, get_or, count_by, flat_map}
use Rattle.std.specs.Prelude.{Bool, true, false, Option, Some, None, option_map, codes, decimal}
use Rattle.std.specs.Fmt.{signed_decimal}
-- a row of a crate above computes a text where it unfolds `ttp_world::specs::Trace::digits`
pub use Rattle.std.specs.Fmt.{digits}
use Rattle.ttp_base.specs.NodeSet.{below, set_bits}
use Rattle.ttp_base.specs.Text.{Lines, newline, hex, hex_bytes, gather}
use Rattle.ttp_world.specs.declared.keep.Back.{Back}
use Rattle.ttp_world.specs.declared.keep.Back.TheVariants as back
use Rattle.ttp_world.specs.declared.keep.Keep.{Keep}
use Rattle.ttp_world.specs.declared.keep.Keep.TheVariants as keep
use Rattle.ttp_world.specs.declared.medl.Medl.{Medl}
use Rattle.ttp_world.specs.declared.node.Ack.{Ack}
use Rattle.ttp_world.specs.declared.node.Ack.TheVariants as ack
use Rattle.ttp_world.specs.declared.node.Delivered.{Delivered}
use Rattle.ttp_world.specs.declared.node.Entry.{Entry}
use Rattle.ttp_world.specs.declared.node.Entry.TheVariants as entry
use Rattle.ttp_world.specs.declared.node.NodeState.{NodeState}
use Rattle.ttp_world.specs.declared.node.Reason.{Reason}
use Rattle.ttp_world.specs.declared.node.Reason.TheVariants as reason
use Rattle.ttp_world.specs.declared.node.Verdict.{Verdict}
use Rattle.ttp_world.specs.declared.node.Verdict.TheVariants as verdict
use Rattle.ttp_world.specs.declared.script.Script.{Script}
use Rattle.ttp_world.specs.declared.script.Source.{Source}
use Rattle.ttp_world.specs.declared.script.Source.TheVariants as source
use Rattle.ttp_world.specs.Diary.{History}
use Rattle.ttp_world.specs.Hypothesis.{keeps}
use Rattle.ttp_world.specs.Returning.{has_arm, returns}
use Rattle.ttp_world.specs.Legal.{ReadMessage, read_messages}
use Rattle.ttp_world.specs.Medl.{member_width}
use Rattle.ttp_world.specs.Messages.{delivered_of, in_messages, ring_messages, newest_number}
use Rattle.ttp_world.specs.Outgoing.{messages_before}
use Rattle.ttp_world.specs.Past.{state_of}
use Rattle.ttp_world.specs.Script.{HostWrite, writes_in, reads_in}
use Rattle.ttp_world.specs.World.{SlotNumbers, Numbers, world, node_past}

-- a number, or a dash where there is none
abbrev pub number_or_dash : Option ℕ → List ℕ
number_or_dash None = codes "-"
number_or_dash (Some n) = decimal n

-- the first line of a trace
abbrev pub trace_head : Medl → Script → List ℕ
trace_head list script =
    codes "ttpbench trace " ++ decimal list.version
    ++ codes " nodes " ++ decimal (length list.slots)
    ++ codes " rounds " ++ decimal list.rounds
    ++ codes " slots " ++ decimal script.slots
    ++ codes " schedule " ++ hex 6 list.schedule ++ newline

-- Node lines.

-- the word of a line for a verdict
abbrev pub verdict_word : Verdict → List ℕ
verdict_word verdict.Null = codes "null"
verdict_word verdict.Invalid = codes "invalid"
verdict_word verdict.Incorrect = codes "incorrect"
verdict_word verdict.Correct = codes "correct"
verdict_word verdict.Tentative = codes "tentative"
verdict_word verdict.Denied = codes "denied"

-- the word for why a node left
abbrev pub reason_word : Reason → List ℕ
reason_word reason.Denied = codes "denied"
reason_word reason.Unacknowledged = codes "unacknowledged"
reason_word reason.Clique = codes "clique"

-- the word for what a node did in a slot: the verdict where it judged another, and the reason where it left
abbrev pub entry_word : Entry → List ℕ
entry_word entry.Off = codes "off"
entry_word entry.Waited = codes "wait"
entry_word entry.Retried = codes "retry"
entry_word entry.Gone = codes "gone"
entry_word entry.Started = codes "start"
entry_word (entry.Sent message) = codes "send"
entry_word (entry.Joined sender cstate deviation) = codes "join"
entry_word (entry.Judged sender v deviation) = verdict_word v
entry_word (entry.Left why peer) = reason_word why

-- the node of which that word speaks, if it speaks of one
abbrev pub peer_of : ℕ → Entry → Option ℕ
peer_of k entry.Off = None
peer_of k entry.Waited = None
peer_of k entry.Retried = None
peer_of k entry.Gone = None
peer_of k entry.Started = Some k
peer_of k (entry.Sent message) = Some k
peer_of k (entry.Joined sender cstate deviation) = Some sender
peer_of k (entry.Judged sender v deviation) = Some sender
peer_of k (entry.Left why peer) = Some peer

-- the word for an acknowledgement
abbrev pub ack_word : Ack → List ℕ
ack_word ack.Closed = codes "none"
ack_word ack.First = codes "first"
ack_word (ack.Doubt x) = codes "doubt:" ++ decimal x

-- the digits in which members are written
abbrev pub member_digits : Medl → ℕ
member_digits list = 2 * member_width list

-- the pieces of a node's line: what it did, and of whom that speaks
abbrev pub entry_pieces : (entry peer : List ℕ) → List (List ℕ)
entry_pieces entry peer = codes " " ∷ entry ∷ codes " peer " ∷ peer ∷ []

-- all between the node's number and the frames that it accepted
abbrev pub told_pieces : (entry peer message members : List ℕ) → List (List ℕ)
told_pieces entry peer message members =
    entry_pieces entry peer ++ codes " msg " ∷ message ∷ codes " mem " ∷ members ∷ codes " acc " ∷ []

-- and between these and its clock
abbrev pub ack_pieces : (rejected ack : List ℕ) → List (List ℕ)
ack_pieces rejected ack = codes " rej " ∷ rejected ∷ codes " ack " ∷ ack ∷ codes " clock " ∷ []

abbrev pub node_pieces : (slot k entry peer message members accepted rejected ack clock : List ℕ) → List (List ℕ)
node_pieces slot k entry peer message members accepted rejected ack clock =
    codes "slot " ∷ slot ∷ codes " node " ∷ k ∷ told_pieces entry peer message members
    ++ accepted ∷ ack_pieces rejected ack ++ clock ∷ []

-- the line by its words, without its line feed
abbrev pub node_line_text : (slot k entry peer message members accepted rejected ack clock : List ℕ) → List ℕ
node_line_text slot k entry peer message members accepted rejected ack clock =
    gather [] (node_pieces slot k entry peer message members accepted rejected ack clock)

-- a node's state after a slot, with its members in so many digits and the message that its line names
abbrev pub node_line : ℕ → ℕ → ℕ → NodeState → Option ℕ → List ℕ
node_line width slot k state message =
    node_line_text (decimal slot) (decimal k) (entry_word state.entry) (number_or_dash (peer_of k state.entry))
    (number_or_dash message) (hex width (set_bits state.members)) (decimal state.accepted) (decimal state.rejected)
    (ack_word state.ack) (signed_decimal state.offset) ++ newline

-- the message that a frame carries, or the one that was delivered by its number in the receiver's ring
abbrev pub number_delivered : Medl → Script → History → ℕ → Delivered → ℕ
number_delivered list script history k delivered = newest_number (in_messages list script history k delivered.sender)

abbrev pub message_shown : Medl → Script → List Entry → History → ℕ → Entry → Option ℕ
message_shown list script row before k (entry.Sent message) = message
message_shown list script row before k (entry.Judged sender v deviation) =
    option_map (number_delivered list script (row ∷ before) k) (delivered_of list script before row k)
message_shown list script row before k _ = None

-- the line of node k after the slot of a row
abbrev pub node_line_of : Medl → Script → List Entry → History → ℕ → List ℕ
node_line_of list script row before k =
    let state = state_of (node_past list script (row ∷ before) k) in
    node_line (member_digits list) (length before) k state (message_shown list script row before k state.entry)

-- Host lines.

-- how each line of a host begins
abbrev pub host_head : ℕ → ℕ → List ℕ
host_head slot k = codes "slot " ++ decimal slot ++ codes " host " ++ decimal k

-- a message's number follows those that its host wrote before, in earlier slots and earlier in this one
abbrev pub write_line : Medl → Script → ℕ → ℕ → ℕ → List ℕ
write_line list script slot k earlier =
    host_head slot k ++ codes " write " ++ decimal (length (messages_before list script k slot) + earlier) ++ newline

-- the lines of some writes of a slot, behind earlier ones of it
abbrev pub more_write_lines : Medl → Script → ℕ → List HostWrite → List HostWrite → Lines
more_write_lines list script slot earlier [] = []
more_write_lines list script slot earlier (w ∷ ws) =
    write_line list script slot w.host (count_by (λ e. e.host == w.host) earlier)
    ∷ more_write_lines list script slot (w ∷ earlier) ws

-- the lines of what hosts write in a slot
abbrev pub write_lines : Medl → Script → ℕ → Lines
write_lines list script slot = more_write_lines list script slot [] (writes_in script slot)

-- a word of 64 bits in its digits
abbrev pub word_hex : ℕ → List ℕ
word_hex word = hex 16 word

-- the name of a source, and a message of it
abbrev pub source_word : Source → List ℕ
source_word source.Status = codes "status"
source_word (source.Node p) = decimal p

abbrev pub message_hex : Source → List ℕ → List ℕ
message_hex source.Status message = flat_map word_hex message
message_hex (source.Node p) message = hex_bytes message

-- the line of a read
abbrev pub read_line : Medl → Script → ℕ → History → ReadMessage → List ℕ
read_line list script slot after r =
    host_head slot r.read.host ++ codes " read " ++ source_word r.read.source ++ codes " " ++ decimal r.number
    ++ codes " "
    ++ message_hex r.read.source (get_or (ring_messages list script after r.read.host r.read.source) r.number [])
    ++ newline

-- the lines of what hosts read in a slot
abbrev pub read_lines : Medl → Script → ℕ → History → List ℕ → Lines
read_lines list script slot after numbers =
    map (read_line list script slot after) (read_messages (reads_in script slot) numbers)

-- A slot: the nodes, what hosts wrote, and what they read.

-- the lines of a slot: of the nodes, of what hosts wrote, and of what they read
abbrev pub slot_lines : Medl → Script → List Entry → History → SlotNumbers → Lines
slot_lines list script row before new =
    map (node_line_of list script row before) (below (length list.slots))
    ++ write_lines list script (length before)
    ++ read_lines list script (length before) (row ∷ before) new.read

-- the oldest slot first
abbrev pub history_lines : Medl → Script → History → Numbers → Lines
history_lines list script [] numbers = []
history_lines list script (row ∷ history) [] = []
history_lines list script (row ∷ history) (new ∷ numbers) =
    history_lines list script history numbers ++ slot_lines list script row history new

-- the line of the hypothesis test
abbrev pub keep_line : Keep → List ℕ
keep_line (keep.Yes start) = codes "keeps yes start " ++ decimal start ++ newline
keep_line (keep.No rule slot) = codes "keeps no H" ++ decimal rule ++ codes " " ++ decimal slot ++ newline

-- the line on armed nodes
abbrev pub back_line : Back → List ℕ
back_line (back.Yes start) = codes "returns yes start " ++ decimal start ++ newline
back_line (back.No rule slot) = codes "returns no Q" ++ decimal rule ++ codes " " ++ decimal slot ++ newline

-- where a node is armed
abbrev pub back_lines_if : Medl → Script → Bool → Lines
back_lines_if list script true = back_line (returns list script) ∷ []
back_lines_if list script false = []

-- the line on armed nodes, where a script arms one
abbrev pub back_lines : Medl → Script → Lines
back_lines list script = back_lines_if list script (has_arm script)

-- the lines of the tests of a script, which are the last ones
abbrev pub test_lines : Medl → Script → Lines
test_lines list script = keep_line (keeps list script) ∷ back_lines list script

-- the trace before these, and the whole
abbrev pub run_lines : Medl → Script → Numbers → Lines
run_lines list script numbers =
    trace_head list script ∷ history_lines list script (world list script numbers) numbers

abbrev pub trace_lines : Medl → Script → Numbers → Lines
trace_lines list script numbers = run_lines list script numbers ++ test_lines list script
