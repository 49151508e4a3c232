-- The faults of a line, given what the lines before it state.
--
-- The lines before are a list of their statements, the newest first.
use Rattle.std.specs.Prelude.{ℕ, ◌+◌, ◌*◌, ℤ, nat_abs, Bool, true, false, not, ◌&&◌, ◌==◌}
use Rattle.std.specs.Prelude.{List, [], ◌∷◌, ◌++◌, length, count_by, nat_le, nat_lt, Option}
use Rattle.std.specs.Prelude.{Some, None, is_some, unwrap_or, option_to_list, if◌then◌else◌}
use Rattle.std.specs.Option.{option_or}
use Rattle.ttp_world.specs.declared.medl.Medl.{Medl}
use Rattle.ttp_world.specs.declared.script.Source.{Source}
use Rattle.ttp_world.specs.declared.script.Source.TheVariants as source
use Rattle.ttp_world.specs.declared.script.Event.{Event}
use Rattle.ttp_world.specs.declared.script.Event.TheVariants as event
use Rattle.ttp_world.specs.declared.script.TheConstants.{SLOT_LIMIT, DRIFT_LIMIT, ERROR_LIMIT, JUMP_LIMIT}
use Rattle.ttp_world.specs.declared.script.TheConstants.{FIRST_FLIPPED_BIT, LAST_FLIPPED_BIT}
use Rattle.ttp_world.specs.Medl.{plan_at}
use Rattle.script_text.specs.declared.error.LineFault.{LineFault}
use Rattle.script_text.specs.declared.error.LineFault.TheVariants as faults
use Rattle.script_text.specs.declared.keyword.Keyword.{Keyword}
use Rattle.script_text.specs.declared.keyword.Keyword.TheVariants as keyword
use Rattle.script_text.specs.Lines.{word_at, says_nothing}
use Rattle.script_text.specs.Statement.{Statement, says_slots, says_on, says_drift, says_event}
use Rattle.script_text.specs.Statement.{keyword_of, is_spelled, has_numbers, statement_of}

-- What the lines before state.

-- what the newest of them says that says such a thing
abbrev pub newest : {X : Type 0} → (Statement → Option X) → List Statement → Option X
newest told [] = None
newest told (statement ∷ before) = option_or (told statement) (newest told before)

-- what one line says of the run's slots, of when node k is on and how its clock drifts, and the event that it is
abbrev pub slots_said : Statement → Option ℕ
slots_said (says_slots count) = Some count
slots_said _ = None

abbrev pub on_said : ℕ → Statement → Option ℕ
on_said k (says_on node slot) = if node == k then Some slot else None
on_said k _ = None

abbrev pub drift_said : ℕ → Statement → Option ℤ
drift_said k (says_drift node value) = if node == k then Some value else None
drift_said k _ = None

abbrev pub event_said : Statement → Option Event
event_said (says_event e) = Some e
event_said _ = None

-- how many slots the run has, where a line says so
abbrev pub slots_of : List Statement → Option ℕ
slots_of before = newest slots_said before

-- as a number, which is 0 where none says so
abbrev pub stated_slots : List Statement → ℕ
stated_slots before = unwrap_or (slots_of before) 0

-- when a node is switched on, and how its clock drifts, where a line says so
abbrev pub on_of : List Statement → ℕ → Option ℕ
on_of before k = newest (on_said k) before

abbrev pub drift_stated : List Statement → ℕ → Option ℤ
drift_stated before k = newest (drift_said k) before

-- all events, in the order of the script
abbrev pub events_of : List Statement → List Event
events_of [] = []
events_of (statement ∷ before) = events_of before ++ option_to_list (event_said statement)

-- Nodes of the list, and payload.

-- this is the number of a node of the list
abbrev pub is_node : Medl → ℕ → Bool
is_node list k = nat_lt k (length list.slots)

-- a host reads its own status, or a node that passes this test
abbrev pub is_read_node : (ℕ → Bool) → Source → Bool
is_read_node test source.Status = true
is_read_node test (source.Node k) = test k

-- each node that an event names is one of the list
abbrev pub event_has_nodes : Medl → Event → Bool
event_has_nodes list (event.Send node channels kind from to) = is_node list node
event_has_nodes list (event.Receive node channels kind from to) = is_node list node
event_has_nodes list (event.Flip node channels bit slot) = is_node list node
event_has_nodes list (event.Error node value from to) = is_node list node
event_has_nodes list (event.Jump node value slot) = is_node list node
event_has_nodes list (event.Arm node slot) = is_node list node
event_has_nodes list (event.Write node slot payload) = is_node list node
event_has_nodes list (event.Read node slot from) = is_node list node && is_read_node (is_node list) from

-- each node that is named is one of the list
abbrev pub has_nodes : Medl → Statement → Bool
has_nodes list (says_slots count) = true
has_nodes list (says_on node slot) = is_node list node
has_nodes list (says_drift node value) = is_node list node
has_nodes list (says_event e) = event_has_nodes list e

-- the bytes of payload that a node's frames carry
abbrev pub payload_size : Medl → ℕ → ℕ
payload_size list k = (plan_at list k).payload

-- a node sends payload
abbrev pub node_sends_payload : Medl → ℕ → Bool
node_sends_payload list k = nat_le 1 (payload_size list k)

-- a node whose host writes, and one that is read from, send payload
abbrev pub statement_has_payload : Medl → Statement → Bool
statement_has_payload list (says_event (event.Write node slot payload)) = node_sends_payload list node
statement_has_payload list (says_event (event.Read node slot from)) = is_read_node (node_sends_payload list) from
statement_has_payload list _ = true

-- Ranges.

-- a run may have so many slots
abbrev pub is_count : ℕ → Bool
is_count count = nat_le 1 count && nat_le count SLOT_LIMIT

-- a slot of a run of so many slots
abbrev pub is_slot : ℕ → ℕ → Bool
is_slot slots slot = nat_lt slot slots

-- first and last slot of a fault
abbrev pub is_span : ℕ → ℕ → ℕ → Bool
is_span slots from to = is_slot slots from && (is_slot slots to && nat_le from to)

-- a number of microticks lies within plus or minus a bound, bounds included
abbrev pub is_within_limit : ℕ → ℤ → Bool
is_within_limit bound value = nat_le (nat_abs value) bound

-- a bit that a line may flip
abbrev pub is_flipped_bit : ℕ → Bool
is_flipped_bit bit = nat_le FIRST_FLIPPED_BIT bit && nat_le bit LAST_FLIPPED_BIT

-- the numbers of an event are in their ranges; a message is written as two digits for each byte, and no host reads
-- its own node's messages
abbrev pub event_is_in_range : Medl → ℕ → List (List ℕ) → Event → Bool
event_is_in_range list slots words (event.Send node channels kind from to) = is_span slots from to
event_is_in_range list slots words (event.Receive node channels kind from to) = is_span slots from to
event_is_in_range list slots words (event.Flip node channels bit slot) = is_flipped_bit bit && is_slot slots slot
event_is_in_range list slots words (event.Error node value from to) =
    is_within_limit ERROR_LIMIT value && is_span slots from to
event_is_in_range list slots words (event.Jump node value slot) = is_within_limit JUMP_LIMIT value && is_slot slots slot
event_is_in_range list slots words (event.Arm node slot) = is_slot slots slot
event_is_in_range list slots words (event.Write node slot payload) =
    is_slot slots slot && (length (word_at words 3) == 2 * payload_size list node)
event_is_in_range list slots words (event.Read node slot from) =
    is_slot slots slot && is_read_node (λ k. not (k == node)) from

-- the numbers of a line are in their ranges, where the run has so many slots
abbrev pub is_in_range : Medl → ℕ → List (List ℕ) → Statement → Bool
is_in_range list slots words (says_slots count) = is_count count
is_in_range list slots words (says_on node slot) = is_slot slots slot
is_in_range list slots words (says_drift node value) = is_within_limit DRIFT_LIMIT value
is_in_range list slots words (says_event e) = event_is_in_range list slots words e

-- What a line says that was said before.

-- a line before said this of the run, or of the node
abbrev pub is_repeat : List Statement → Statement → Bool
is_repeat before (says_slots count) = is_some (slots_of before)
is_repeat before (says_on node slot) = is_some (on_of before node)
is_repeat before (says_drift node value) = is_some (drift_stated before node)
is_repeat before (says_event e) = false

-- Writes of a node's host, which stay fewer in a slot than a ring has buffers.

-- a node's host writes; and that of node k writes in slot t
abbrev pub is_write : Statement → Bool
is_write (says_event (event.Write node slot payload)) = true
is_write _ = false

abbrev pub is_write_at : ℕ → ℕ → Statement → Bool
is_write_at k t (says_event (event.Write node slot payload)) = (node == k) && (slot == t)
is_write_at k t _ = false

-- with this line the writes of the node in that slot reach the number of buffers
abbrev pub fills_buffers : Medl → List Statement → Statement → Bool
fills_buffers list before (says_event (event.Write node slot payload)) =
    nat_le list.buffers (count_by (is_write_at node slot) before + 1)
fills_buffers list before _ = false

-- The faults of a line, in the order in which they are looked for.

-- a fault that is there unless something holds, and one that is there where it holds
abbrev pub fault_unless : Bool → LineFault → List LineFault
fault_unless holds fault = if holds then [] else fault ∷ []

abbrev pub when : Bool → LineFault → List LineFault
when holds fault = if holds then fault ∷ [] else []

-- those of a line of a form in a run of so many slots, whatever the lines before say
unfoldable pub statement_faults : Medl → ℕ → List (List ℕ) → Keyword → List LineFault
statement_faults list slots words form =
    fault_unless (has_numbers form words) faults.Number
    ++ (fault_unless (has_nodes list (statement_of form words)) faults.NoNode
    ++ (fault_unless (statement_has_payload list (statement_of form words)) faults.NoData
    ++ fault_unless (is_in_range list slots words (statement_of form words)) faults.Range))

-- those of what a line states, beside the lines before
abbrev pub further_faults : Medl → List Statement → Statement → List LineFault
further_faults list before statement =
    when (is_repeat before statement) faults.Repeat
    ++ (when (is_write statement && (list.buffers == 1)) faults.NoBuffer
    ++ when (fills_buffers list before statement) faults.TooMany)

-- a line other than `slots` stands after that line, which says the run's slots
abbrev pub is_after_slots : Keyword → Option ℕ → Bool
is_after_slots keyword.Slots slots = true
is_after_slots _ slots = is_some slots

-- those of a line whose words are spelled as its form has them
unfoldable pub stated_faults : Medl → List Statement → List (List ℕ) → Keyword → List LineFault
stated_faults list before words form =
    statement_faults list (stated_slots before) words form ++ further_faults list before (statement_of form words)

-- those of a line of a form
unfoldable pub form_faults : Medl → List Statement → List (List ℕ) → Keyword → List LineFault
form_faults list before words form =
    fault_unless (is_spelled form words) faults.Word
    ++ (fault_unless (is_after_slots form (slots_of before)) faults.NoSlots
    ++ stated_faults list before words form)

-- those of a line whose first word names this form, or none
abbrev pub keyword_faults : Medl → List Statement → List (List ℕ) → Option Keyword → List LineFault
keyword_faults list before words None = faults.Word ∷ []
keyword_faults list before words (Some form) = form_faults list before words form

-- those of a line
unfoldable pub line_faults : Medl → List Statement → List (List ℕ) → List LineFault
line_faults list before words =
    if says_nothing words then [] else keyword_faults list before words (keyword_of (word_at words 0))

-- what the lines state with one line more, whose first word names this form, or none
abbrev pub keyword_statements : List Statement → List (List ℕ) → Option Keyword → List Statement
keyword_statements before words None = before
keyword_statements before words (Some form) = statement_of form words ∷ before

-- what the lines state with one line more
unfoldable pub statements_after : List Statement → List (List ℕ) → List Statement
statements_after before words =
    if says_nothing words then before else keyword_statements before words (keyword_of (word_at words 0))
