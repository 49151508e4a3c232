-- What a node hears, by what comes to it, and what it makes of it.
use Rattle.std.specs.Prelude.{◌≡◌, ℕ, ◌+◌, ◌<◌, ◌≤◌, ℤ, ◌+ℤ◌, ◌-ℤ◌, Bool, true, false, length, IfSome, unsigned_abs}
use Rattle.ttp_frame.specs.declared.judging.Expect.{Expect}
use Rattle.ttp_frame.specs.Shape.{HaveRoom, IsFrameShape}
use Rattle.ttp_world.specs.declared.medl.Medl.{Medl}
use Rattle.ttp_world.specs.declared.node.Ack.{Ack}
use Rattle.ttp_world.specs.declared.node.Ack.TheVariants as ack
use Rattle.ttp_world.specs.Act.{coming_place}
use Rattle.ttp_world.specs.Diary.{Place}
use Rattle.ttp_world.specs.Medium.{Signal}
use Rattle.ttp_world.specs.Medl.{is_wide}
use Rattle.ttp_world.specs.Membership.{AreNodes}
use Rattle.ttp_world.specs.Past.{NodePast}
use Rattle.ttp_world.specs.Reception.{Hearing, candidates, verdict_of, view_of, heard_deviation, entry_deviation}
use Rattle.ttp_world.specs.Reception.{is_first_view, is_taken_from_a, expected_header, expected_length}
use Rattle.ttp_world.specs.Reception.{Expected as Awaited}
use Rattle.medium.specs.declared.arrival.Arrival.{Arrival}
use Rattle.medium.specs.declared.arrival.Arrival.TheVariants as arrival
use Rattle.medium.specs.Shows.{Shows}
use Rattle.node_parts.specs.ClockStandsFor.{ClockStandsFor}
use Rattle.controller.specs.declared.hearing.Expected.{Expected}
use Rattle.controller.specs.declared.hearing.Judgement.{Judgement}
use Rattle.controller.specs.declared.hearing.Receiver.{Receiver}
use Rattle.controller.specs.declared.hearing.Seen.{Seen}
use Rattle.controller.specs.Limits.{most_clock, offset_of_arrival}

-- What comes to a receiver.

-- nothing came on a channel
abbrev pub is_silent_arrival : Arrival → Bool
is_silent_arrival arrival.Silence = true
is_silent_arrival arrival.Noise = false
is_silent_arrival (arrival.Bits bytes offset) = false

-- how late a frame of each node comes to a receiver whose clock is `own`, with this reading error
abbrev pub deviation_by : (ℕ → ℤ) → ℤ → ℤ → ℕ → ℤ
deviation_by clock own error sender = (clock sender -ℤ own) +ℤ error

-- what the node hears, where the clock of each node is so far ahead
abbrev pub hearing_of : Signal → Signal → (ℕ → ℤ) → ℤ → ℤ → Hearing
hearing_of a b clock own error = record { a = a; b = b; deviation = deviation_by clock own error }

-- a claim holds of whatever signal, and deviation of each node, what came on a channel shows
abbrev pub ForSignals : Arrival → ℤ → ℤ → (Signal → (ℕ → ℤ) → Type 0) → Type 0
ForSignals came own error P =
    (sent : Signal) (clock : ℕ → ℤ) → Shows came sent clock → P sent (deviation_by clock own error)

-- and of whatever is heard on both channels
abbrev pub ForHearings : Arrival → Arrival → ℤ → ℤ → (Hearing → Type 0) → Type 0
ForHearings a b own error P =
    (sent_a sent_b : Signal) (clock : ℕ → ℤ) → Shows a sent_a clock → Shows b sent_b clock
    → P (hearing_of sent_a sent_b clock own error)

-- how late it came fits its number
abbrev pub ReadingFits : ℤ → Arrival → ℤ → Type 0
ReadingFits own came error = unsigned_abs own + unsigned_abs (offset_of_arrival came) + unsigned_abs error ≤ most_clock

-- What a receiver judges by.

-- this is the form of the frame that the list gives for a place
pub record IsFormOf (list : Medl) (place : Place) (form : Expect) : Type 0 where
  pub wide : form.wide ≡ is_wide list
  pub header : form.header ≡ expected_header list place
  pub payload : form.payload ≡ expected_length list place
  pub shape : IsFrameShape form.header form.payload

-- it is a node of the list, and so are its members and the one that it doubts; its clock goes by the list
pub record IsReceiver (list : Medl) (receiver : Receiver) : Type 0 where
  pub number : receiver.number < length list.slots
  pub coming : ClockStandsFor receiver.coming list receiver.coming.place
  pub doubt : (x : ℕ) → receiver.ack ≡ ack.Doubt x → x < length list.slots
  pub members : AreNodes list receiver.members

-- a node with this past judges the coming slot by these
pub record Receives (list : Medl) (past : NodePast) (receiver : Receiver) : Type 0 where
  pub coming : ClockStandsFor receiver.coming list (coming_place list past)
  pub ack : receiver.ack ≡ past.ack
  pub members : receiver.members ≡ past.members

-- what it expects
abbrev pub awaited_by : Receiver → Awaited
awaited_by receiver = record {
  place = receiver.coming.place;
  candidates = candidates receiver.ack receiver.number receiver.members receiver.coming.place.slot;
}

-- what an expected frame of the code stands for
abbrev pub awaited_meant : Expected → Awaited
awaited_meant expected = record {
  place = expected.place.place;
  candidates = record { first = expected.first; second = expected.second };
}

-- the list has the place, and its frames have room for the members of the candidates
pub record IsExpected (list : Medl) (expected : Expected) : Type 0 where
  pub place : ClockStandsFor expected.place list expected.place.place
  pub first : HaveRoom (is_wide list) expected.first
  pub second : IfSome expected.second (HaveRoom (is_wide list))

-- What it makes of what it hears.

-- of a channel
pub record IsSeen (seen : Seen) (list : Medl) (awaited : Awaited) (sent : Signal) (late : ℕ → ℤ) : Type 0 where
  pub view : seen.view ≡ view_of list awaited late sent
  pub deviation : seen.deviation ≡ heard_deviation late sent

-- of both channels, as the entry of the slot has it
pub record IsJudgement (judgement : Judgement) (list : Medl) (awaited : Awaited) (a : Ack) (h : Hearing) : Type 0 where
  pub verdict : judgement.verdict
      ≡ verdict_of (view_of list awaited h.deviation h.a) (view_of list awaited h.deviation h.b) a
  pub deviation : judgement.deviation
      ≡ entry_deviation (is_taken_from_a (view_of list awaited h.deviation h.a) (view_of list awaited h.deviation h.b))
      (heard_deviation h.deviation h.a) (heard_deviation h.deviation h.b)
  pub from_a : judgement.from_a ≡ is_first_view (view_of list awaited h.deviation h.a)
