-- What is due at each word of a line, and what is wrong with one.
--
-- A list that has a fault says nothing: it is then `None`.
use Rattle.std.specs.Prelude.{ℕ, ◌-◌, ◌*◌, pos, neg_ℤ, Bool, ◌&&◌, ◌==◌, List, [], ◌∷◌, length, codes}
use Rattle.std.specs.Prelude.{nat_le, nat_lt, Option, Some, None, find, is_some, if◌then◌else◌}
use Rattle.ttp_base.specs.NodeSet.{most_nodes}
use Rattle.ttp_world.specs.declared.medl.Medl.{Medl}
use Rattle.ttp_world.specs.declared.script.TheConstants.{SLOT_LIMIT, DRIFT_LIMIT, ERROR_LIMIT, JUMP_LIMIT}
use Rattle.ttp_world.specs.declared.script.TheConstants.{FIRST_FLIPPED_BIT, LAST_FLIPPED_BIT}
use Rattle.script_text.specs.Faults.{payload_size, is_within_limit}
use Rattle.script_text.specs.Numbers.{is_text, is_number, decimal_value, is_value, value_in, is_hex_word}
use Rattle.script_text.specs.Numbers.{is_channels, is_fault}
use Rattle.script_errors.specs.declared.error.Form.{Form}
use Rattle.script_errors.specs.declared.error.Form.TheVariants as form
use Rattle.script_errors.specs.declared.error.Part.{Part}
use Rattle.script_errors.specs.declared.error.Part.TheVariants as part
use Rattle.script_errors.specs.declared.error.Wrong.{Wrong}
use Rattle.script_errors.specs.declared.error.Wrong.TheVariants as wrong

-- Forms.

-- the forms of lines, in their order, and the word that names each
abbrev pub forms : List Form
forms =
    form.Slots ∷ form.On ∷ form.Drift ∷ form.Send ∷ form.Receive ∷ form.Flip ∷ form.Error ∷ form.Jump ∷ form.Arm
    ∷ form.Write ∷ form.Read ∷ []

abbrev pub form_word : Form → List ℕ
form_word form.Slots = codes "slots"
form_word form.On = codes "on"
form_word form.Drift = codes "drift"
form_word form.Send = codes "send"
form_word form.Receive = codes "receive"
form_word form.Flip = codes "flip"
form_word form.Error = codes "error"
form_word form.Jump = codes "jump"
form_word form.Arm = codes "arm"
form_word form.Write = codes "write"
form_word form.Read = codes "read"

-- the form that a line's first word names
abbrev pub form_named : List ℕ → Option Form
form_named word = find (λ f. is_text (form_word f) word) forms

-- what the words behind the first say, in their order
abbrev pub parts_of : Form → List Part
parts_of form.Slots = part.Slots ∷ []
parts_of form.On = part.Node ∷ part.Slot ∷ []
parts_of form.Drift = part.Node ∷ part.Drift ∷ []
parts_of form.Send = part.Node ∷ part.Channels ∷ part.Fault ∷ part.From ∷ part.To ∷ []
parts_of form.Receive = part.Node ∷ part.Channels ∷ part.Fault ∷ part.From ∷ part.To ∷ []
parts_of form.Flip = part.Node ∷ part.Channels ∷ part.Bit ∷ part.Slot ∷ []
parts_of form.Error = part.Node ∷ part.Reading ∷ part.From ∷ part.To ∷ []
parts_of form.Jump = part.Node ∷ part.Jump ∷ part.Slot ∷ []
parts_of form.Arm = part.Node ∷ part.Slot ∷ []
parts_of form.Write = part.Writer ∷ part.Slot ∷ part.Message ∷ []
parts_of form.Read = part.Node ∷ part.Slot ∷ part.Source ∷ []

-- What the list says.

-- the number of nodes: where the list is at fault, as many as any list may have
abbrev pub node_count : Option Medl → ℕ
node_count None = most_nodes
node_count (Some list) = length list.slots

-- the bytes of payload of a node's frames, where the list says so
abbrev pub payload_of : Option Medl → ℕ → Option ℕ
payload_of None k = None
payload_of (Some list) k = Some (payload_size list k)

-- One word.

-- a number in a range, bounds included
abbrev pub number_wrong : Part → ℕ → ℕ → List ℕ → Option Wrong
number_wrong p low high word =
    if is_number word
    then (if nat_le low (decimal_value word) && nat_le (decimal_value word) high then None
    else Some (wrong.OutOfRange p (pos (decimal_value word)) (pos low) (pos high)))
    else Some (wrong.NoNumber p (pos low) (pos high))

-- a number within plus or minus a bound
abbrev pub value_wrong : Part → ℕ → List ℕ → Option Wrong
value_wrong p bound word =
    if is_value word
    then (if is_within_limit bound (value_in word) then None
    else Some (wrong.OutOfRange p (value_in word) (neg_ℤ (pos bound)) (pos bound)))
    else Some (wrong.NoNumber p (neg_ℤ (pos bound)) (pos bound))

-- a word of a few
abbrev pub spelling_wrong : Part → Bool → Option Wrong
spelling_wrong p spelled = if spelled then None else Some (wrong.Misspelt p)

-- a node of so many
abbrev pub node_wrong : Part → ℕ → List ℕ → Option Wrong
node_wrong p nodes word =
    if is_number word
    then (if nat_lt (decimal_value word) nodes then None else Some (wrong.NoNode p (decimal_value word) (nodes - 1)))
    else Some (wrong.NoNumber p (pos 0) (pos (nodes - 1)))

-- a node sends payload, where the list tells how much
abbrev pub data_wrong : Part → ℕ → Option ℕ → Option Wrong
data_wrong p node None = None
data_wrong p node (Some payload) = if payload == 0 then Some (wrong.NoData p node) else None

-- the first of two things that is wrong
abbrev pub first_wrong : Option Wrong → Option Wrong → Option Wrong
first_wrong None second = second
first_wrong (Some w) second = Some w

-- a node that writes
abbrev pub writer_wrong : Option Medl → List ℕ → Option Wrong
writer_wrong list word =
    first_wrong (node_wrong part.Writer (node_count list) word)
    (data_wrong part.Writer (decimal_value word) (payload_of list (decimal_value word)))

-- a host reads from another node than its own, where that one is known
abbrev pub itself_wrong : ℕ → Option ℕ → Option Wrong
itself_wrong source None = None
itself_wrong source (Some node) = if source == node then Some (wrong.ReadsItself source) else None

-- what a host of this node reads, where the node is right
abbrev pub source_wrong : Option Medl → Option ℕ → List ℕ → Option Wrong
source_wrong list node word =
    if is_text (codes "status") word then None else (
    if is_number word
    then (let source = decimal_value word in
    if nat_lt source (node_count list)
    then first_wrong (data_wrong part.Source source (payload_of list source)) (itself_wrong source node)
    else Some (wrong.NoNode part.Source source (node_count list - 1)))
    else Some (wrong.NoSource (node_count list - 1)))

-- a message has two digits for each byte of payload
abbrev pub length_wrong : ℕ → ℕ → Option ℕ → Option Wrong
length_wrong digits node None = None
length_wrong digits node (Some payload) =
    if digits == 2 * payload then None else Some (wrong.DigitCount digits (2 * payload) node)

-- of a known node
abbrev pub message_length_wrong : Option Medl → Option ℕ → ℕ → Option Wrong
message_length_wrong list None digits = None
message_length_wrong list (Some node) digits = length_wrong digits node (payload_of list node)

-- a message of this node, where the node is right
abbrev pub message_wrong : Option Medl → Option ℕ → List ℕ → Option Wrong
message_wrong list node word =
    if is_hex_word word then message_length_wrong list node (length word) else Some wrong.NoDigits

-- what is wrong with a word that says such a part of a line, in a run of so many slots, where this is the line's node
unfoldable pub word_wrong : Option Medl → ℕ → Option ℕ → Part → List ℕ → Option Wrong
word_wrong list slots _ part.Slots word = number_wrong part.Slots 1 SLOT_LIMIT word
word_wrong list slots _ part.Node word = node_wrong part.Node (node_count list) word
word_wrong list slots _ part.Writer word = writer_wrong list word
word_wrong list slots _ part.Slot word = number_wrong part.Slot 0 (slots - 1) word
word_wrong list slots _ part.From word = number_wrong part.From 0 (slots - 1) word
word_wrong list slots _ part.To word = number_wrong part.To 0 (slots - 1) word
word_wrong list slots _ part.Channels word = spelling_wrong part.Channels (is_channels word)
word_wrong list slots _ part.Fault word = spelling_wrong part.Fault (is_fault word)
word_wrong list slots _ part.Bit word = number_wrong part.Bit FIRST_FLIPPED_BIT LAST_FLIPPED_BIT word
word_wrong list slots _ part.Drift word = value_wrong part.Drift DRIFT_LIMIT word
word_wrong list slots _ part.Reading word = value_wrong part.Reading ERROR_LIMIT word
word_wrong list slots _ part.Jump word = value_wrong part.Jump JUMP_LIMIT word
word_wrong list slots node part.Message word = message_wrong list node word
word_wrong list slots node part.Source word = source_wrong list node word

-- the node that a word names where it says such a part and nothing is wrong with it
abbrev pub right_node : Option Medl → Part → List ℕ → Option ℕ
right_node list part.Node word =
    if is_some (word_wrong list 0 None part.Node word) then None else Some (decimal_value word)
right_node list part.Writer word =
    if is_some (word_wrong list 0 None part.Writer word) then None else Some (decimal_value word)
right_node list _ word = None
