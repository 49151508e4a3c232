-- The lines of a trace as data: the labels and words of each, and the values of the words.
use Rattle.std.specs.Prelude.{ℕ, zero, suc, ◌^◌, List, [], ◌∷◌, length, get_or, Option}
use Rattle.std.specs.Prelude.{Some, None, Bool, ℤ, codes, if◌then◌else◌}
use Rattle.ttp_base.specs.NodeSet.{members_in}
use Rattle.ttp_world.specs.declared.keep.Back.TheVariants as back
use Rattle.ttp_world.specs.declared.keep.Keep.TheVariants as keep
use Rattle.ttp_world.specs.declared.node.Ack.{Ack}
use Rattle.ttp_world.specs.declared.node.Ack.TheVariants as ack
use Rattle.ttp_world.specs.declared.script.Source.{Source}
use Rattle.ttp_world.specs.declared.script.Source.TheVariants as source
use Rattle.line_form.specs.declared.named.Named.{Named}
use Rattle.line_form.specs.declared.named.Named.TheVariants as choice
use Rattle.line_form.specs.Kinds.{Kind, number, signed, hexed, hexed_or, one_of, or_dash, named, payload}
use Rattle.line_form.specs.Forms.{◌▸◌, LineForm, Values}
use Rattle.line_reader.specs.declared.trace_line.TraceLine.{TraceLine}
use Rattle.line_reader.specs.declared.trace_line.TraceLine.TheVariants as line
use Rattle.line_reader.specs.declared.trace_line.Word.{Word}
use Rattle.line_reader.specs.declared.trace_line.Word.TheVariants as word
use Rattle.line_reader.specs.TraceLines.{fits_word, has_size}

-- The words of nodes, and the place of each among them.

abbrev pub node_words : List (List ℕ)
node_words =
    codes "off" ∷ codes "wait" ∷ codes "retry" ∷ codes "gone" ∷ codes "start" ∷ codes "join" ∷ codes "send"
    ∷ codes "correct" ∷ codes "tentative" ∷ codes "incorrect" ∷ codes "invalid" ∷ codes "null" ∷ codes "denied"
    ∷ codes "unacknowledged" ∷ codes "clique" ∷ []

abbrev pub word_place : Word → ℕ
word_place word.Off = 0
word_place word.Wait = 1
word_place word.Retry = 2
word_place word.Gone = 3
word_place word.Start = 4
word_place word.Join = 5
word_place word.Send = 6
word_place word.Correct = 7
word_place word.Tentative = 8
word_place word.Incorrect = 9
word_place word.Invalid = 10
word_place word.Null = 11
word_place word.Denied = 12
word_place word.Unacknowledged = 13
word_place word.Clique = 14

abbrev pub word_at_place : ℕ → Word
word_at_place place =
    get_or (word.Off ∷ word.Wait ∷ word.Retry ∷ word.Gone ∷ word.Start ∷ word.Join ∷ word.Send ∷ word.Correct
    ∷ word.Tentative ∷ word.Incorrect ∷ word.Invalid ∷ word.Null ∷ word.Denied ∷ word.Unacknowledged ∷ word.Clique ∷ [])
    place word.Clique

-- what a node knows of its newest frame
abbrev pub ack_kind : Kind
ack_kind = named (codes "none" ∷ codes "first" ∷ []) (codes "doubt:") (number 256)

abbrev pub ack_told : Ack → Named ℕ
ack_told ack.Closed = choice.Told 0
ack_told ack.First = choice.Told 1
ack_told (ack.Doubt x) = choice.Other x

abbrev pub ack_of_named : Named ℕ → Ack
ack_of_named (choice.Told zero) = ack.Closed
ack_of_named (choice.Told (suc i)) = ack.First
ack_of_named (choice.Other x) = ack.Doubt x

-- the status, or a node by its number
abbrev pub source_kind : Kind
source_kind = named (codes "status" ∷ []) [] (number 256)

abbrev pub source_told : Source → Named ℕ
source_told source.Status = choice.Told 0
source_told (source.Node p) = choice.Other p

abbrev pub source_of_named : Named ℕ → Source
source_of_named (choice.Told i) = source.Status
source_of_named (choice.Other p) = source.Node p

-- The lines.

abbrev pub head_form : LineForm
head_form =
    codes "ttpbench trace " ▸ number 256 ∷ codes " nodes " ▸ number 256 ∷ codes " rounds " ▸ number 256
    ∷ codes " slots " ▸ number 100000 ∷ codes " schedule " ▸ hexed 6 ∷ []

abbrev pub node_form : LineForm
node_form =
    codes "slot " ▸ number 100000 ∷ codes " node " ▸ number 256 ∷ codes " " ▸ one_of node_words
    ∷ codes " peer " ▸ or_dash (number 256) ∷ codes " msg " ▸ or_dash (number 1000000)
    ∷ codes " mem " ▸ hexed_or 4 6 ∷ codes " acc " ▸ number 256 ∷ codes " rej " ▸ number 256
    ∷ codes " ack " ▸ ack_kind ∷ codes " clock " ▸ signed (10 ^ 18) ∷ []

abbrev pub write_form : LineForm
write_form = codes "slot " ▸ number 100000 ∷ codes " host " ▸ number 256 ∷ codes " write " ▸ number 1000000 ∷ []

abbrev pub read_form : LineForm
read_form =
    codes "slot " ▸ number 100000 ∷ codes " host " ▸ number 256 ∷ codes " read " ▸ source_kind
    ∷ codes " " ▸ number 1000000 ∷ codes " " ▸ payload 240 ∷ []

-- those of the test, where it says yes and where it says no
abbrev pub kept_form : LineForm
kept_form = codes "keeps yes start " ▸ number 100000 ∷ []

abbrev pub broken_form : LineForm
broken_form = codes "keeps no H" ▸ number 256 ∷ codes " " ▸ number 100000 ∷ []

-- those on armed nodes
abbrev pub owed_form : LineForm
owed_form = codes "returns yes start " ▸ number 100000 ∷ []

abbrev pub refused_form : LineForm
refused_form = codes "returns no Q" ▸ number 256 ∷ codes " " ▸ number 100000 ∷ []

-- What a line with these values says, where its words fit together.

abbrev pub head_meaning : Values head_form → Option TraceLine
head_meaning (version, (nodes, (rounds, (slots, (schedule, end))))) =
    Some (line.Header version nodes rounds slots schedule)

abbrev pub node_meaning : Values node_form → Option TraceLine
node_meaning (slot, (k, (w, (peer, (message, (members, (accepted, (rejected, (a, (offset, end)))))))))) =
    if fits_word (word_at_place w) peer message
    then Some (line.Node slot k (word_at_place w) peer message members.0 (members_in members.1) accepted rejected
    (ack_of_named a) offset)
    else None

abbrev pub write_meaning : Values write_form → Option TraceLine
write_meaning (slot, (host, (n, end))) = Some (line.Write slot host n)

abbrev pub read_meaning : Values read_form → Option TraceLine
read_meaning (slot, (host, (from, (n, (bytes, end))))) =
    if has_size (source_of_named from) (length bytes)
    then Some (line.Read slot host (source_of_named from) n bytes)
    else None

abbrev pub kept_meaning : Values kept_form → Option TraceLine
kept_meaning (start, end) = Some (line.Keep (keep.Yes start))

abbrev pub broken_meaning : Values broken_form → Option TraceLine
broken_meaning (rule, (slot, end)) = Some (line.Keep (keep.No rule slot))

abbrev pub owed_meaning : Values owed_form → Option TraceLine
owed_meaning (start, end) = Some (line.Back (back.Yes start))

abbrev pub refused_meaning : Values refused_form → Option TraceLine
refused_meaning (rule, (slot, end)) = Some (line.Back (back.No rule slot))

-- The values of a line's words.

abbrev pub node_values : ℕ → ℕ → Word → Option ℕ → Option ℕ → Bool × ℕ → ℕ → ℕ → Ack → ℤ → Values node_form
node_values slot k w peer message members accepted rejected a offset =
    (slot, (k, (word_place w, (peer, (message, (members, (accepted, (rejected, (ack_told a, (offset, tt))))))))))
