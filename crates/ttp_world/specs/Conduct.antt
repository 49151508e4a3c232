-- What one node does in a slot: the frame that it sends, and its entry by what it hears.
use Rattle.std.specs.Prelude.{ℕ, ℤ, Bool, not, ◌&&◌, ◌==◌, List, [], ◌∷◌, Option, Some, None, unwrap_or, if◌then◌else◌}
use Rattle.std.specs.Option.{option_or}
use Rattle.ttp_base.specs.NodeSet.{with_node}
use Rattle.ttp_world.specs.declared.medl.Medl.{Medl}
use Rattle.ttp_world.specs.declared.node.CState.{CState}
use Rattle.ttp_world.specs.declared.node.Chosen.{Chosen}
use Rattle.ttp_world.specs.declared.node.Delivered.{Delivered}
use Rattle.ttp_world.specs.declared.node.Entry.{Entry}
use Rattle.ttp_world.specs.declared.node.Entry.TheVariants as entry
use Rattle.ttp_world.specs.declared.node.Reason.TheVariants as reason
use Rattle.ttp_world.specs.declared.node.Verdict.{Verdict}
use Rattle.ttp_world.specs.declared.node.Verdict.TheVariants as verdict
use Rattle.ttp_world.specs.Acknowledgement.{is_correct}
use Rattle.ttp_world.specs.declared.node.Act.{Act}
use Rattle.ttp_world.specs.declared.node.Act.TheVariants.{Off, Gone, Listen, Start, Retry, Leave, Send, Judge}
use Rattle.ttp_world.specs.Act.{coming_place}
use Rattle.ttp_world.specs.Diary.{Place, cstate_at}
use Rattle.ttp_world.specs.Fitting.{joinable}
use Rattle.ttp_world.specs.Frame.{cold_start_header, header_of, frame}
use Rattle.ttp_world.specs.Medium.{Signal, Silence, Noise, Bits, SentFrame}
use Rattle.ttp_world.specs.Medl.{member_width, kind_at, payload_length}
use Rattle.ttp_world.specs.Past.{NodePast}
use Rattle.ttp_world.specs.Reception.{Hearing, Expected, expected_of, view_of, verdict_of, is_taken_from_a}
use Rattle.ttp_world.specs.Reception.{heard_deviation, entry_deviation, payload_heard, is_first_view}

-- The frame.

-- whether the frame of a place's slot carries payload
abbrev pub carries_payload : Medl → Place → Bool
carries_payload list place = not (payload_length list place.round place.slot == 0)

-- the payload that goes into the frame of a place, of the message that is chosen
abbrev pub payload_sent : Medl → Place → Chosen → List ℕ
payload_sent list place chosen = if carries_payload list place then chosen.payload else []

-- that message's number, where the frame carries payload
abbrev pub message_sent : Medl → Place → Chosen → Option ℕ
message_sent list place chosen = if carries_payload list place then Some chosen.number else None

-- the C-state of node k's cold start, of which it is the only member
abbrev pub cold_start_cstate : ℕ → CState
cold_start_cstate k = record { time = 0; round = 0; slot = k; members = k ∷ [] }

-- the cold-start frame of node k
abbrev pub cold_start_frame : Medl → ℕ → List ℕ
cold_start_frame list k = frame (member_width list) cold_start_header (cold_start_cstate k) [] list.schedule

-- the C-state of an active node's own frame, in which it is a member itself
abbrev pub own_cstate : Medl → ℕ → NodePast → CState
own_cstate list k past = cstate_at (coming_place list past) (with_node past.members k)

-- the frame of node k in its own slot
abbrev pub own_frame : Medl → ℕ → NodePast → Chosen → List ℕ
own_frame list k past chosen =
    let place = coming_place list past in
    frame (member_width list) (header_of (kind_at list place.round place.slot)) (own_cstate list k past)
    (payload_sent list place chosen) list.schedule

-- the frame that node k sends by what it does, if it sends one
abbrev pub node_frames : Medl → ℕ → NodePast → Chosen → Act → List SentFrame
node_frames list k past chosen Start = record { sender = k; bytes = cold_start_frame list k } ∷ []
node_frames list k past chosen Send = record { sender = k; bytes = own_frame list k past chosen } ∷ []
node_frames list k past chosen _ = []

-- Joining: on channel A or else on B. The sender is the owner of the carried slot, the deviation that to the node
-- that sent the bits.

-- the join on a C-state, if there is one, that came so late: the sender is the owner of the slot that it carries
abbrev pub join_entry : ℤ → Option CState → Option Entry
join_entry deviation None = None
join_entry deviation (Some c) = Some (entry.Joined c.slot c deviation)

-- the join on what a channel carried, with the deviation to the node that sent the bits
abbrev pub channel_join : Medl → (ℕ → ℤ) → Signal → Option Entry
channel_join list deviation Silence = None
channel_join list deviation Noise = None
channel_join list deviation (Bits sender bytes) = join_entry (deviation sender) (joinable list bytes)

-- the entry of a listening node: it joins on channel A, or else on B, or waits
abbrev pub listening_entry : Medl → Hearing → Entry
listening_entry list h =
    unwrap_or (option_or (channel_join list h.deviation h.a) (channel_join list h.deviation h.b)) entry.Waited

-- Judging: the entry of a verdict on a sender. A node that is denied leaves.

-- the entry of a verdict on a sender: a node that is denied leaves
abbrev pub verdict_entry : ℕ → Verdict → ℤ → Entry
verdict_entry sender verdict.Denied deviation = entry.Left reason.Denied sender
verdict_entry sender v deviation = entry.Judged sender v deviation

-- the entry of an active node in the slot of another, by what it hears on both channels
abbrev pub judging_entry : Medl → ℕ → NodePast → Hearing → Entry
judging_entry list k past h =
    let view_a = view_of list (expected_of list k past) h.deviation h.a in
    let view_b = view_of list (expected_of list k past) h.deviation h.b in
    verdict_entry (coming_place list past).slot (verdict_of view_a view_b past.ack)
    (entry_deviation (is_taken_from_a view_a view_b) (heard_deviation h.deviation h.a)
    (heard_deviation h.deviation h.b))

-- the entry of node k by what it does
abbrev pub new_entry : Medl → ℕ → NodePast → Chosen → Hearing → Act → Entry
new_entry list k past chosen h Off = entry.Off
new_entry list k past chosen h Gone = entry.Gone
new_entry list k past chosen h Start = entry.Started
new_entry list k past chosen h Retry = entry.Retried
new_entry list k past chosen h (Leave why) = entry.Left why k
new_entry list k past chosen h Send = entry.Sent (message_sent list (coming_place list past) chosen)
new_entry list k past chosen h Listen = listening_entry list h
new_entry list k past chosen h Judge = judging_entry list k past h

-- Delivery: the payload of a correct frame, from channel A where A's view was of the first candidate, and else from B.

-- the payload that is taken: from channel A where A's view was of the first candidate, and else from B
abbrev pub payload_taken : Medl → Expected → Hearing → List ℕ
payload_taken list expected h =
    if is_first_view (view_of list expected h.deviation h.a) then payload_heard list expected.place h.a
    else payload_heard list expected.place h.b

-- what an active node delivers by the entry that it makes of what it hears
abbrev pub delivery : Medl → ℕ → NodePast → Hearing → Entry → Option Delivered
delivery list k past h (entry.Judged sender v deviation) =
    if is_correct v && carries_payload list (coming_place list past)
    then Some (record { sender = sender; payload = payload_taken list (expected_of list k past) h }) else None
delivery list k past h _ = None
