-- What an active node makes of another node's slot: the view of each channel, and the verdict.
use Rattle.std.specs.Prelude.{ℕ, nat_le, ℤ, pos, neg_ℤ, Bool, true, false, ◌&&◌, List, [], int_le, Option, Some, None}
use Rattle.std.specs.Prelude.{unwrap_or, option_map, if◌then◌else◌}
use Rattle.ttp_base.specs.NodeSet.{with_node, without_node}
use Rattle.ttp_world.specs.declared.medl.Medl.{Medl}
use Rattle.ttp_world.specs.declared.node.Ack.{Ack}
use Rattle.ttp_world.specs.declared.node.Ack.TheVariants as ack
use Rattle.ttp_world.specs.declared.node.ChannelView.{ChannelView}
use Rattle.ttp_world.specs.declared.node.ChannelView.TheVariants as view
use Rattle.ttp_world.specs.declared.node.Verdict.{Verdict}
use Rattle.ttp_world.specs.declared.node.Verdict.TheVariants as verdict
use Rattle.ttp_world.specs.Act.{coming_place}
use Rattle.ttp_world.specs.Diary.{Place, cstate_at}
use Rattle.ttp_world.specs.Fitting.{fits, is_formed, payload_in}
use Rattle.ttp_world.specs.Frame.{header_of}
use Rattle.ttp_world.specs.Medium.{Signal, Silence, Noise, Bits}
use Rattle.ttp_world.specs.Medl.{member_width, kind_at, payload_length}
use Rattle.ttp_world.specs.Past.{NodePast}

-- The candidates for the sender's membership: by the first the receiver's own newest frame was received, by the
-- second it was not. `members` are the receiver's, without regard to the sender.
pub record Candidates : Type 0 where
  pub first : List ℕ
  pub second : Option (List ℕ)

abbrev pub candidate_sets : Ack → ℕ → List ℕ → Candidates
candidate_sets ack.Closed own members = record { first = members; second = None }
candidate_sets ack.First own members =
    record { first = with_node members own; second = Some (without_node members own) }
candidate_sets (ack.Doubt x) own members =
    record { first = without_node (with_node members own) x; second = Some (with_node (without_node members own) x) }

-- the candidates for the frame of a sender, which is a member of each
abbrev pub candidates : Ack → ℕ → List ℕ → ℕ → Candidates
candidates a own members sender = candidate_sets a own (with_node members sender)

-- The view of a channel.

-- what a receiver expects in a slot: the frame that the list gives, and the candidates
pub record Expected : Type 0 where
  pub place : Place
  pub candidates : Candidates

-- that is an active node k, by its past
abbrev pub expected_of : Medl → ℕ → NodePast → Expected
expected_of list k past = record {
  place = coming_place list past;
  candidates = candidates past.ack k past.members (coming_place list past).slot;
}

-- what a node hears in a slot: the signal on each channel, and how late a frame of each node comes to it
pub record Hearing : Type 0 where
  pub a : Signal
  pub b : Signal
  pub deviation : ℕ → ℤ

-- the header of the frame that a list gives for a place
abbrev pub expected_header : Medl → Place → ℕ
expected_header list place = header_of (kind_at list place.round place.slot)

-- how many bytes of payload it has
abbrev pub expected_length : Medl → Place → ℕ
expected_length list place = payload_length list place.round place.slot

-- a deviation lies within the list's window
abbrev pub is_within_window : Medl → ℤ → Bool
is_within_window list deviation = int_le (neg_ℤ list.window) deviation && int_le deviation list.window

-- bytes are a frame of the expected header and length
abbrev pub is_expected_form : Medl → Expected → List ℕ → Bool
is_expected_form list expected bytes =
    is_formed (member_width list) bytes (expected_header list expected.place)
    (expected_length list expected.place) list.schedule

-- they are the expected frame, with these members
abbrev pub fits_members : Medl → Expected → List ℕ → List ℕ → Bool
fits_members list expected bytes members =
    fits (member_width list) bytes (expected_header list expected.place)
    (expected_length list expected.place) list.schedule
    (cstate_at expected.place members)

-- they are that of the second candidate, if there is one
abbrev pub fits_second : Medl → Expected → List ℕ → Bool
fits_second list expected bytes =
    unwrap_or (option_map (fits_members list expected bytes) expected.candidates.second) false

-- how bytes of the expected form are seen
abbrev pub view_of_frame : Medl → Expected → List ℕ → ChannelView
view_of_frame list expected bytes =
    elim (fits_members list expected bytes expected.candidates.first) [
      | true ↦ view.First
      | false ↦ if fits_second list expected bytes then view.Second else view.Other
    ]

-- how bits are seen that came so late: Bad outside the window, and where they are not of the expected form
abbrev pub view_of_bits : Medl → Expected → List ℕ → ℤ → ChannelView
view_of_bits list expected bytes deviation =
    if is_within_window list deviation
    && is_expected_form list expected bytes then view_of_frame list expected bytes else view.Bad

-- the view of what is heard on a channel, where a frame of each node comes so late
abbrev pub view_of : Medl → Expected → (ℕ → ℤ) → Signal → ChannelView
view_of list expected deviation Silence = view.Silent
view_of list expected deviation Noise = view.Bad
view_of list expected deviation (Bits sender bytes) = view_of_bits list expected bytes (deviation sender)

-- The better view of two, in the order First, Second, Other, Bad, Silent.

-- the place of a view in the order from the best to the worst: First, Second, Other, Bad, Silent
abbrev pub rank_of : ChannelView → ℕ
rank_of view.First = 0
rank_of view.Second = 1
rank_of view.Other = 2
rank_of view.Bad = 3
rank_of view.Silent = 4

-- the view of channel A is taken: it is the better one, or they are equal
abbrev pub is_taken_from_a : ChannelView → ChannelView → Bool
is_taken_from_a a b = nat_le (rank_of a) (rank_of b)

-- the better view of two
abbrev pub better_view : ChannelView → ChannelView → ChannelView
better_view a b = if is_taken_from_a a b then a else b

-- The verdict. With a closed acknowledgement there is no second candidate, and a view of it counts as another frame.

-- the verdict on a frame of the second candidate; a closed acknowledgement has none
abbrev pub verdict_of_second : Ack → Verdict
verdict_of_second ack.Closed = verdict.Incorrect
verdict_of_second ack.First = verdict.Tentative
verdict_of_second (ack.Doubt x) = verdict.Denied

-- the verdict on a slot that is seen so, with this acknowledgement
abbrev pub verdict_of_view : ChannelView → Ack → Verdict
verdict_of_view view.First a = verdict.Correct
verdict_of_view view.Second a = verdict_of_second a
verdict_of_view view.Other a = verdict.Incorrect
verdict_of_view view.Bad a = verdict.Invalid
verdict_of_view view.Silent a = verdict.Null

-- the verdict on a slot by the views of channels A and B: the better one decides
abbrev pub verdict_of : ChannelView → ChannelView → Ack → Verdict
verdict_of a b acknowledgement = verdict_of_view (better_view a b) acknowledgement

-- The deviation that an entry tells: 0 where no channel carried bits, and that of the channel whose view is taken where
-- both did.

-- the deviation to the sender of the bits that a channel carried, if it carried bits, in microticks
abbrev pub heard_deviation : (ℕ → ℤ) → Signal → Option ℤ
heard_deviation deviation Silence = None
heard_deviation deviation Noise = None
heard_deviation deviation (Bits sender bytes) = Some (deviation sender)

-- the deviation that an entry tells: 0 where no channel carried bits, and of two that of the view that is taken
abbrev pub entry_deviation : Bool → Option ℤ → Option ℤ → ℤ
entry_deviation from_a None None = pos 0
entry_deviation from_a (Some a) None = a
entry_deviation from_a None (Some b) = b
entry_deviation from_a (Some a) (Some b) = if from_a then a else b

-- What is handed to the host: the payload of a correct frame, from the first channel on which it was so.

-- the bytes in the payload's place of what a channel carried
abbrev pub payload_heard : Medl → Place → Signal → List ℕ
payload_heard list place Silence = []
payload_heard list place Noise = []
payload_heard list place (Bits sender bytes) =
    payload_in (member_width list) (expected_header list place) (expected_length list place) bytes

-- a view is that of a frame of the first candidate
abbrev pub is_first_view : ChannelView → Bool
is_first_view view.First = true
is_first_view _ = false
