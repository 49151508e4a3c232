-- The lines of a trace as values: the text of each, without its line feed, and what fits into it.
use Rattle.std.specs.Prelude.{ℕ, ◌≡◌, ◌+◌, ◌*◌, ◌^◌, ◌<◌, ◌≤◌, ◌==◌, nat_le}
use Rattle.std.specs.Prelude.{◌&&◌, ◌||◌, ℤ, pos, negsuc, Bool, true, false}
use Rattle.std.specs.Prelude.{List, ◌++◌, length, Option, codes, decimal, is_some, is_none, IsTrue, IfSome}
use Rattle.std.specs.Prelude.{if◌then◌else◌}
use Rattle.std.specs.Fmt.{signed_decimal}
use Rattle.ttp_base.specs.NodeSet.{set_bits, members_in}
use Rattle.ttp_base.specs.Text.{hex, hex_bytes}
use Rattle.ttp_world.specs.declared.keep.Back.{Back}
use Rattle.ttp_world.specs.declared.keep.Back.TheVariants as back
use Rattle.ttp_world.specs.declared.keep.Keep.{Keep}
use Rattle.ttp_world.specs.declared.keep.Keep.TheVariants as keep
use Rattle.ttp_world.specs.declared.node.Ack.{Ack}
use Rattle.ttp_world.specs.declared.node.Ack.TheVariants as ack
use Rattle.ttp_world.specs.declared.script.Source.{Source}
use Rattle.ttp_world.specs.declared.script.Source.TheVariants as source
use Rattle.ttp_world.specs.Medl.{member_bytes}
use Rattle.ttp_world.specs.Trace.{number_or_dash, ack_word, node_line_text, host_head, source_word}
use Rattle.line_reader.specs.declared.trace_line.TraceLine.{TraceLine}
use Rattle.line_reader.specs.declared.trace_line.TraceLine.TheVariants as line
use Rattle.line_reader.specs.declared.trace_line.Word.{Word}
use Rattle.line_reader.specs.declared.trace_line.Word.TheVariants as word
use Rattle.line_text.specs.HostLines.{AreBytes}
use Rattle.line_text.specs.Numerals.{message_digits}

-- Texts.

-- the text of a word
abbrev pub word_text : Word → List ℕ
word_text word.Off = codes "off"
word_text word.Wait = codes "wait"
word_text word.Retry = codes "retry"
word_text word.Gone = codes "gone"
word_text word.Start = codes "start"
word_text word.Join = codes "join"
word_text word.Send = codes "send"
word_text word.Correct = codes "correct"
word_text word.Tentative = codes "tentative"
word_text word.Incorrect = codes "incorrect"
word_text word.Invalid = codes "invalid"
word_text word.Null = codes "null"
word_text word.Denied = codes "denied"
word_text word.Unacknowledged = codes "unacknowledged"
word_text word.Clique = codes "clique"

-- the line of the hypothesis test, without its line feed
abbrev pub keep_text : Keep → List ℕ
keep_text (keep.Yes start) = codes "keeps yes start " ++ decimal start
keep_text (keep.No rule slot) = codes "keeps no H" ++ decimal rule ++ codes " " ++ decimal slot

-- the line on armed nodes, without its line feed
abbrev pub back_text : Back → List ℕ
back_text (back.Yes start) = codes "returns yes start " ++ decimal start
back_text (back.No rule slot) = codes "returns no Q" ++ decimal rule ++ codes " " ++ decimal slot

-- the line of a value, without its line feed
abbrev pub text_of : TraceLine → List ℕ
text_of (line.Header version nodes rounds slots schedule) =
    codes "ttpbench trace " ++ decimal version ++ codes " nodes " ++ decimal nodes ++ codes " rounds " ++ decimal rounds
    ++ codes " slots " ++ decimal slots ++ codes " schedule " ++ hex 6 schedule
text_of (line.Node slot k w peer message wide members accepted rejected a offset) =
    node_line_text (decimal slot) (decimal k) (word_text w) (number_or_dash peer) (number_or_dash message)
    (hex (2 * member_bytes wide) (set_bits members)) (decimal accepted) (decimal rejected) (ack_word a)
    (signed_decimal offset)
text_of (line.Write slot host number) = host_head slot host ++ codes " write " ++ decimal number
text_of (line.Read slot host from number payload) =
    host_head slot host ++ codes " read " ++ source_word from ++ codes " " ++ decimal number
    ++ codes " " ++ hex_bytes payload
text_of (line.Keep k) = keep_text k
text_of (line.Back b) = back_text b

-- What fits.

-- slots have at most 5 digits, and offsets 18
abbrev pub slot_digits : ℕ
slot_digits = 5

abbrev pub offset_digits : ℕ
offset_digits = 18

-- the lines of these words name a peer, and those of these may name a message
abbrev pub names_peer : Word → Bool
names_peer word.Off = false
names_peer word.Wait = false
names_peer word.Retry = false
names_peer word.Gone = false
names_peer _ = true

abbrev pub may_name_message : Word → Bool
may_name_message word.Send = true
may_name_message word.Correct = true
may_name_message _ = false

-- a peer and a message fit the word
abbrev pub fits_word : Word → Option ℕ → Option ℕ → Bool
fits_word w peer message =
    (if names_peer w then is_some peer else is_none peer) && (may_name_message w || is_none message)

-- a status has 32 bytes, and another message at least one
abbrev pub has_size : Source → ℕ → Bool
has_size source.Status size = size == 32
has_size (source.Node p) size = nat_le 1 size

-- an answer of the hypothesis test fits into the digits of its line
abbrev pub FitsKeep : Keep → Type 0
FitsKeep (keep.Yes start) = start < 10 ^ slot_digits
FitsKeep (keep.No rule slot) = (rule < 256) × (slot < 10 ^ slot_digits)

-- one on armed nodes does
abbrev pub FitsBack : Back → Type 0
FitsBack (back.Yes start) = start < 10 ^ slot_digits
FitsBack (back.No rule slot) = (rule < 256) × (slot < 10 ^ slot_digits)

-- an acknowledgement does
abbrev pub FitsAck : Ack → Type 0
FitsAck ack.Closed = Unit {0}
FitsAck ack.First = Unit {0}
FitsAck (ack.Doubt x) = x < 256

-- a clock does
abbrev pub FitsOffset : ℤ → Type 0
FitsOffset (pos n) = n < 10 ^ offset_digits
FitsOffset (negsuc n) = n + 1 < 10 ^ offset_digits

-- a status has 32 bytes, and another message 1 to 240
abbrev pub FitsSource : Source → ℕ → Type 0
FitsSource source.Status size = size ≡ 32
FitsSource (source.Node p) size = (p < 256) × (1 ≤ size) × (size ≤ 240)

-- a set of nodes that so many bytes hold
pub record FitsMembers (bytes : ℕ) (members : List ℕ) : Type 0 where
  pub set : members ≡ members_in (set_bits members)
  pub few : set_bits members < 256 ^ bytes

-- the numbers of the first line do
pub record FitsHeader (v n r t number : ℕ) : Type 0 where
  pub version : v < 256
  pub nodes : n < 256
  pub rounds : r < 256
  pub slots : t < 10 ^ slot_digits
  pub schedule : number < 256 ^ 3

-- what the line of a node says does
pub record FitsNode (t k : ℕ) (w : Word) (p m : Option ℕ) (wide : Bool) (nodes : List ℕ) (good bad : ℕ) (a : Ack)
    (z : ℤ) : Type 0 where
  pub slot : t < 10 ^ slot_digits
  pub node : k < 256
  pub word : IsTrue (fits_word w p m)
  pub peer : IfSome p (λ j. j < 256)
  pub message : IfSome m (λ i. i < 10 ^ message_digits)
  pub members : FitsMembers (member_bytes wide) nodes
  pub accepted : good < 256
  pub rejected : bad < 256
  pub ack : FitsAck a
  pub offset : FitsOffset z

-- what that of a written message says does
pub record FitsWrite (t k i : ℕ) : Type 0 where
  pub slot : t < 10 ^ slot_digits
  pub host : k < 256
  pub number : i < 10 ^ message_digits

-- what that of a message that was read says does
pub record FitsRead (t k : ℕ) (from : Source) (i : ℕ) (bytes : List ℕ) : Type 0 where
  pub slot : t < 10 ^ slot_digits
  pub host : k < 256
  pub number : i < 10 ^ message_digits
  pub source : FitsSource from (length bytes)
  pub payload : AreBytes bytes

-- what a value says fits into the widths of its line
abbrev pub Fits : TraceLine → Type 0
Fits (line.Header version nodes rounds slots schedule) = FitsHeader version nodes rounds slots schedule
Fits (line.Node slot k w peer message wide members accepted rejected a offset) =
    FitsNode slot k w peer message wide members accepted rejected a offset
Fits (line.Write slot host number) = FitsWrite slot host number
Fits (line.Read slot host from number payload) = FitsRead slot host from number payload
Fits (line.Keep k) = FitsKeep k
Fits (line.Back b) = FitsBack b
