-- What a node hears, as the signal that it is, and whether that came as it was sent.
use Rattle.std.specs.Prelude.{◌≡◌, ◌<◌, ℕ, Bool, true, IsTrue, List, length, filter, is_some, not, take, drop, ◌&&◌, ⊤}
use Rattle.causes.specs.LinesOf.{bytes_sent}
use Rattle.causes.specs.RunSlots.{RunSlot}
use Rattle.causes.specs.Said as said
use Rattle.entry_causes.specs.Senders.{sends_in}
use Rattle.entry_causes.specs.declared.bus.Heard.{Heard}
use Rattle.entry_causes.specs.declared.bus.Heard.TheVariants as heard
use Rattle.entry_causes.specs.declared.bus.JoinedFrame.{JoinedFrame}
use Rattle.ttp_base.specs.NodeSet.{has_node}
use Rattle.ttp_world.specs.Events.{bits_on}
use Rattle.ttp_world.specs.Fitting.{joinable}
use Rattle.ttp_world.specs.Medium.{Bits, Noise, Signal, Silence}
use Rattle.ttp_world.specs.declared.events.FlippedBit.{FlippedBit}
use Rattle.ttp_world.specs.declared.medl.Medl.{Medl}
use Rattle.ttp_world.specs.declared.script.Channel.{Channel}

-- the signal
abbrev pub signal_heard : Heard → Signal
signal_heard heard.Silence = Silence
signal_heard heard.Noise = Noise
signal_heard (heard.Bits sender frame is_as_sent) = Bits sender frame

-- bits came as they were sent
abbrev pub is_heard_as_sent : Heard → Bool
is_heard_as_sent (heard.Bits sender frame is_as_sent) = is_as_sent
is_heard_as_sent _ = true

-- bits are of this node
abbrev pub IsHeardFrom : ℕ → Heard → Type 0
IsHeardFrom p (heard.Bits sender frame is_as_sent) = sender ≡ p
IsHeardFrom p _ = ⊤

-- bits are of a node of the list that sends in the slot
abbrev pub IsHeardInSlot : Medl → RunSlot → Heard → Type 0
IsHeardInSlot list s (heard.Bits sender frame is_as_sent) = (sender < length list.slots) × IsTrue (sends_in s sender)
IsHeardInSlot list s _ = ⊤

-- bits are of a node below a number
abbrev pub IsHeardBelow : ℕ → Heard → Type 0
IsHeardBelow n (heard.Bits sender frame is_as_sent) = sender < n
IsHeardBelow n _ = ⊤

-- the frame on which a node joins, as the definitions have it
abbrev pub joined_shown : JoinedFrame → said.JoinedFrame
joined_shown joined = record { sender = joined.sender; is_as_sent = joined.is_as_sent }

-- the bit of the flip at a place on a channel, where no earlier flip is of it
abbrev pub first_bits : Channel → List FlippedBit → ℕ → List ℕ
first_bits c flips at =
    filter (λ bit. not (has_node (bits_on c (take at flips)) bit)) (bits_on c (take 1 (drop at flips)))

-- a node sends a frame on which, as it is sent, another can join
abbrev pub sends_joinable : RunSlot → ℕ → Bool
sends_joinable s k = sends_in s k && is_some (joinable s.begun.list (bytes_sent s.frames k))
