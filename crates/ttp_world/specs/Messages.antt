-- What comes to the hosts: the payloads that a node delivers, and the status messages that it publishes. Each ring's
-- messages begin with the zeros as number 0.
use Rattle.std.specs.Prelude.{ℕ, ◌+◌, ◌*◌, ◌-◌, nat_le, Bool, true, false, ◌&&◌, ◌==◌, List, [], ◌∷◌, ◌++◌, map, length}
use Rattle.std.specs.Prelude.{replicate, Option, Some, None, is_some, if◌then◌else◌}
use Rattle.ttp_base.specs.NodeSet.{below}
use Rattle.ttp_world.specs.declared.medl.Medl.{Medl}
use Rattle.ttp_world.specs.declared.node.Chosen.{Chosen}
use Rattle.ttp_world.specs.declared.node.Delivered.{Delivered}
use Rattle.ttp_world.specs.declared.node.Entry.{Entry}
use Rattle.ttp_world.specs.declared.node.Entry.TheVariants as entry
use Rattle.ttp_world.specs.declared.node.Phase.{Phase}
use Rattle.ttp_world.specs.declared.node.Phase.TheVariants as phase
use Rattle.ttp_world.specs.declared.script.Script.{Script}
use Rattle.ttp_world.specs.declared.script.Source.{Source}
use Rattle.ttp_world.specs.declared.script.Source.TheVariants as source
use Rattle.ttp_world.specs.Acknowledgement.{is_open, is_doubt}
use Rattle.ttp_world.specs.Clock.{is_corrected}
use Rattle.ttp_world.specs.Diary.{History, entry_of, is_active_phase, cstate_at}
use Rattle.ttp_world.specs.Fitting.{number_in}
use Rattle.ttp_world.specs.Frame.{cstate_bytes}
use Rattle.ttp_world.specs.Medium.{is_sending}
use Rattle.ttp_world.specs.Medl.{member_width}
use Rattle.ttp_world.specs.Outgoing.{zeros_of, message_chosen}
use Rattle.ttp_world.specs.Past.{NodePast}
use Rattle.ttp_world.specs.World.{node_past, slot_after, frames_in, delivered_in}

-- Payloads.

-- the messages that the frames of a slot carried, by its entries
abbrev pub message_of : Entry → Option ℕ
message_of (entry.Sent message) = message
message_of _ = None

abbrev pub messages_of : Medl → Script → ℕ → List Entry → List Chosen
messages_of list script slot row =
    map (λ k. message_chosen list script slot k (message_of (entry_of row k))) (below (length list.slots))

-- what node r delivered in the slot of a row, after the history before it
abbrev pub delivered_of : Medl → Script → History → List Entry → ℕ → Option Delivered
delivered_of list script history row r =
    let s = slot_after list script history in
    delivered_in s (frames_in s (messages_of list script (length history) row)) r (entry_of row r)

-- the payload of node p, as one message or none
abbrev pub payload_of_sender : ℕ → Delivered → List (List ℕ)
payload_of_sender p delivered = if delivered.sender == p then delivered.payload ∷ [] else []

-- the payload of node p of what was delivered, if anything was
abbrev pub new_messages : ℕ → Option Delivered → List (List ℕ)
new_messages p None = []
new_messages p (Some delivered) = payload_of_sender p delivered

-- what node k's host has received from node p
abbrev pub in_messages : Medl → Script → History → ℕ → ℕ → List (List ℕ)
in_messages list script [] k p = zeros_of list p ∷ []
in_messages list script (row ∷ history) k p =
    in_messages list script history k p ++ new_messages p (delivered_of list script history row k)

-- Status: the slot, the flags, the C-state of the slot with the members after it, and the counts.

-- the value of a flag where it stands, and else 0
abbrev pub flag : ℕ → Bool → ℕ
flag value stands = if stands then value else 0

-- a phase is that of a listening node
abbrev pub is_listening_phase : Phase → Bool
is_listening_phase phase.Listening = true
is_listening_phase _ = false

-- a phase is that of a node that has left
abbrev pub is_left_phase : Phase → Bool
is_left_phase phase.Left = true
is_left_phase _ = false

-- four deviations were averaged in the newest slot
abbrev pub has_averaged : Medl → NodePast → Bool
has_averaged list past = is_corrected list past.phase past.place && nat_le 4 (length past.notes)

-- the flags by what is read of a node after a slot, and whether it delivered in it
abbrev pub flags_of : Medl → NodePast → Bool → ℕ
flags_of list past delivers =
    flag 1 (is_active_phase past.phase)
    + (flag 2 (is_listening_phase past.phase)
    + (flag 4 (is_left_phase past.phase)
    + (flag 8 (is_sending past.entry)
    + (flag 16 delivers
    + (flag 32 (is_open past.ack)
    + (flag 64 (is_doubt past.ack)
    + flag 128 (has_averaged list past)))))))

-- the C-state of an active node as a number, and else 0
abbrev pub cstate_word : Medl → NodePast → ℕ
cstate_word list past =
    if is_active_phase past.phase then number_in (cstate_bytes (member_width list) (cstate_at past.place past.members))
    else 0

-- the four words of a status message
abbrev pub status_words : Medl → ℕ → NodePast → Bool → List ℕ
status_words list slot past delivers =
    slot ∷ flags_of list past delivers ∷ cstate_word list past ∷ (256 * past.accepted + past.rejected) ∷ []

-- what node k has published
abbrev pub status_messages : Medl → Script → History → ℕ → List (List ℕ)
status_messages list script [] k = replicate 4 0 ∷ []
status_messages list script (row ∷ history) k =
    status_messages list script history k
    ++ status_words list (length history) (node_past list script (row ∷ history) k)
    (is_some (delivered_of list script history row k)) ∷ []

-- the ring from which host k reads
abbrev pub ring_messages : Medl → Script → History → ℕ → Source → List (List ℕ)
ring_messages list script history k source.Status = status_messages list script history k
ring_messages list script history k (source.Node p) = in_messages list script history k p

-- the number of a ring's newest message
abbrev pub newest_number : List (List ℕ) → ℕ
newest_number messages = length messages - 1
