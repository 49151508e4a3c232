-- What a medium stands for. Contracts see it as the slot and what is on each channel.
use Rattle.std.specs.Prelude.{◌≡◌, ℕ, ℤ, List, [], ◌∷◌, ◌++◌}
use Rattle.ttp_world.specs.declared.script.Channel.{Channel}
use Rattle.ttp_world.specs.declared.script.Channel.TheVariants as channel
use Rattle.ttp_world.specs.declared.script.Script.{Script}
use Rattle.ttp_world.specs.Medium.{SentFrame, Signal, Silence, Noise, Bits, channel_signal, heard}
use Rattle.medium.specs.declared.arrival.Arrival.{Arrival}
use Rattle.medium.specs.Carried.{OnChannel, Carried}
use Rattle.medium.specs.Shows.{Shows}

-- where this is bits, their sender's clock is so far ahead
abbrev pub IsOffsetOf : ℤ → Signal → (ℕ → ℤ) → Type 0
IsOffsetOf offset Silence clock = Unit {0}
IsOffsetOf offset Noise clock = Unit {0}
IsOffsetOf offset (Bits sender bytes) clock = offset ≡ clock sender

-- this signal is on a channel, where the clock of each node is so far ahead
pub record Carries (there : OnChannel) (s : Signal) (clock : ℕ → ℤ) : Type 0 where
  pub signal : there.signal ≡ s
  pub offset : IsOffsetOf there.offset s clock

-- A medium stands for the frames that were sent in a slot, in the order in which they were put, by nodes whose clocks
-- are so far ahead: on each channel is what the script's faults make of them.
pub record MediumStandsFor (m : Carried) (script : Script) (t : ℕ) (frames : List SentFrame) (clock : ℕ → ℤ)
    : Type 0 where
  pub slot : m.slot ≡ t
  pub a : Carries m.a (channel_signal script t channel.A frames) clock
  pub b : Carries m.b (channel_signal script t channel.B frames) clock

-- nothing was sent in this slot yet, whatever the script and the clocks are
abbrev pub StandsAtBeginning : Carried → ℕ → Type 0
StandsAtBeginning medium slot = (script : Script) (clock : ℕ → ℤ) → MediumStandsFor medium script slot [] clock

-- the frame of a node with these bytes
abbrev pub sent_by : ℕ → List ℕ → SentFrame
sent_by node bytes = record { sender = node; bytes = bytes }

-- whatever frames the one stood for, the other stands for these and one more, whose sender's clock is so far ahead
abbrev pub StandsAfterPut : Carried → Carried → Script → SentFrame → ℤ → Type 0
StandsAfterPut old new script sent offset =
    (slot : ℕ) (frames : List SentFrame) (clock : ℕ → ℤ) → offset ≡ clock sent.sender
    → MediumStandsFor old script slot frames clock → MediumStandsFor new script slot (frames ++ sent ∷ []) clock

-- whatever frames a medium stands for, the arrival shows what is made of them on a channel
abbrev pub ShowsCarried : Carried → Channel → Arrival → Type 0
ShowsCarried medium c arrival =
    (script : Script) (slot : ℕ) (frames : List SentFrame) (clock : ℕ → ℤ)
    → MediumStandsFor medium script slot frames clock
    → Shows arrival (channel_signal script slot c frames) clock

-- whatever frames a medium stands for, the arrival shows what the node hears of them on a channel
abbrev pub ShowsHeard : Carried → Script → ℕ → Channel → Arrival → Type 0
ShowsHeard medium script node c arrival =
    (slot : ℕ) (frames : List SentFrame) (clock : ℕ → ℤ) → MediumStandsFor medium script slot frames clock
    → Shows arrival (heard script slot node c frames) clock
