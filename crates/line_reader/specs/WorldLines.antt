-- The lines of a trace of the world as values.
use Rattle.std.specs.Prelude.{ℕ, List, length, Option}
use Rattle.std.specs.List.{flat_map}
use Rattle.std.specs.Int.{w64, to_be_bytes}
use Rattle.ttp_world.specs.declared.medl.Medl.{Medl}
use Rattle.ttp_world.specs.declared.node.Entry.{Entry}
use Rattle.ttp_world.specs.declared.node.Entry.TheVariants as entry
use Rattle.ttp_world.specs.declared.node.NodeState.{NodeState}
use Rattle.ttp_world.specs.declared.node.Reason.{Reason}
use Rattle.ttp_world.specs.declared.node.Reason.TheVariants as reason
use Rattle.ttp_world.specs.declared.node.Verdict.{Verdict}
use Rattle.ttp_world.specs.declared.node.Verdict.TheVariants as verdict
use Rattle.ttp_world.specs.declared.script.Script.{Script}
use Rattle.ttp_world.specs.declared.script.Source.{Source}
use Rattle.ttp_world.specs.declared.script.Source.TheVariants as source
use Rattle.ttp_world.specs.Medl.{is_wide}
use Rattle.ttp_world.specs.Trace.{peer_of}
use Rattle.line_reader.specs.declared.trace_line.TraceLine.{TraceLine}
use Rattle.line_reader.specs.declared.trace_line.TraceLine.TheVariants as line
use Rattle.line_reader.specs.declared.trace_line.Word.{Word}
use Rattle.line_reader.specs.declared.trace_line.Word.TheVariants as word

-- the word of a line for a verdict
abbrev pub word_of_verdict : Verdict → Word
word_of_verdict verdict.Null = word.Null
word_of_verdict verdict.Invalid = word.Invalid
word_of_verdict verdict.Incorrect = word.Incorrect
word_of_verdict verdict.Correct = word.Correct
word_of_verdict verdict.Tentative = word.Tentative
word_of_verdict verdict.Denied = word.Denied

-- the word of a line for why a node left
abbrev pub word_of_reason : Reason → Word
word_of_reason reason.Denied = word.Denied
word_of_reason reason.Unacknowledged = word.Unacknowledged
word_of_reason reason.Clique = word.Clique

-- the word for what a node did in a slot
abbrev pub word_of : Entry → Word
word_of entry.Off = word.Off
word_of entry.Waited = word.Wait
word_of entry.Retried = word.Retry
word_of entry.Gone = word.Gone
word_of entry.Started = word.Start
word_of (entry.Sent message) = word.Send
word_of (entry.Joined sender cstate deviation) = word.Join
word_of (entry.Judged sender v deviation) = word_of_verdict v
word_of (entry.Left why peer) = word_of_reason why

-- the first line of a list's and a script's trace
abbrev pub head_of : Medl → Script → TraceLine
head_of list script = line.Header list.version (length list.slots) list.rounds script.slots list.schedule

-- a node's state after a slot, with the message that its line names
abbrev pub line_of_node : Medl → ℕ → ℕ → NodeState → Option ℕ → TraceLine
line_of_node list slot k state message =
    line.Node slot k (word_of state.entry) (peer_of k state.entry) message (is_wide list) state.members state.accepted
    state.rejected state.ack state.offset

-- the bytes of a message: a status has eight for each of its words
abbrev pub bytes_of_message : Source → List ℕ → List ℕ
bytes_of_message source.Status message = flat_map (to_be_bytes w64) message
bytes_of_message (source.Node p) message = message
