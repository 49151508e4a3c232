-- What a list of events says of a node in a slot.
use Rattle.std.specs.Prelude.{ℕ, ◌*◌, nat_le, ℤ, pos, neg_ℤ, ◌+ℤ◌, ◌≤ℤ◌, if◌then◌else◌, Bool, true, false, ◌&&◌, ◌||◌}
use Rattle.std.specs.Prelude.{◌==◌, List, [], ◌∷◌, Option, Some, None}
use Rattle.std.specs.List.{list_any, filter_map}
use Rattle.ttp_world.specs.declared.events.FlippedBit.{FlippedBit}
use Rattle.ttp_world.specs.declared.events.Incidents.{Incidents}
use Rattle.ttp_world.specs.declared.script.Channel.{Channel}
use Rattle.ttp_world.specs.declared.script.Channel.TheVariants as channel
use Rattle.ttp_world.specs.declared.script.Channels.{Channels}
use Rattle.ttp_world.specs.declared.script.Event.{Event}
use Rattle.ttp_world.specs.declared.script.Event.TheVariants as event
use Rattle.ttp_world.specs.declared.script.Fault.{Fault}
use Rattle.ttp_world.specs.declared.script.Fault.TheVariants as fault
use Rattle.ttp_world.specs.declared.script.TheConstants.{EVENT_LIMIT, ERROR_LIMIT, JUMP_LIMIT}

-- an event arms a node in a slot
abbrev pub arms : ℕ → ℕ → Event → Bool
arms k slot (event.Arm node at) = (node == k) && (at == slot)
arms k slot _ = false

-- Faults on a channel.

-- a slot lies between two others, which count
abbrev pub covers : ℕ → ℕ → ℕ → Bool
covers from to slot = nat_le from slot && nat_le slot to

-- a channel is one of some
abbrev pub is_among : Channel → Channels → Bool
is_among channel.A channels = channels.a
is_among channel.B channels = channels.b

-- two faults make the same of what they strike
abbrev pub is_same_fault : Fault → Fault → Bool
is_same_fault fault.Silence fault.Silence = true
is_same_fault fault.Silence fault.Noise = false
is_same_fault fault.Noise fault.Silence = false
is_same_fault fault.Noise fault.Noise = true

-- an event is a send fault, or a receive fault, of this kind on a node's channel in a slot
abbrev pub is_send_fault : Fault → ℕ → Channel → ℕ → Event → Bool
is_send_fault kind k c slot (event.Send node channels f from to) =
    (node == k) && (is_among c channels && (is_same_fault f kind && covers from to slot))
is_send_fault kind k c slot _ = false

abbrev pub is_receive_fault : Fault → ℕ → Channel → ℕ → Event → Bool
is_receive_fault kind k c slot (event.Receive node channels f from to) =
    (node == k) && (is_among c channels && (is_same_fault f kind && covers from to slot))
is_receive_fault kind k c slot _ = false

-- the bit that an event flips in the frame that a node sends on a channel in a slot
abbrev pub flipped_bit : ℕ → Channel → ℕ → Event → Option ℕ
flipped_bit k c slot (event.Flip node channels bit at) =
    if (node == k) && (is_among c channels && (at == slot)) then Some bit else None
flipped_bit k c slot _ = None

-- the bit that is flipped, where it is so on this channel
abbrev pub bit_on : Channel → FlippedBit → Option ℕ
bit_on c flipped = if is_among c flipped.channels then Some flipped.bit else None

-- the bits that are flipped on a channel
abbrev pub bits_on : Channel → List FlippedBit → List ℕ
bits_on c flips = filter_map (bit_on c) flips

-- Clocks.

-- the sum of some numbers
abbrev pub sum_ℤ : List ℤ → ℤ
sum_ℤ [] = pos 0
sum_ℤ (z ∷ zs) = z +ℤ sum_ℤ zs

-- the reading error that an event gives a receiver in a slot
abbrev pub error_in : ℕ → ℕ → Event → Option ℤ
error_in k slot (event.Error node value from to) = if (node == k) && covers from to slot then Some value else None
error_in k slot _ = None

-- the jump that an event gives a node's clock in a slot
abbrev pub jump_in : ℕ → ℕ → Event → Option ℤ
jump_in k slot (event.Jump node value at) = if (node == k) && (at == slot) then Some value else None
jump_in k slot _ = None

-- What happens to a node in a slot, all but what its host does: the faults on each channel, whether a bit of its frame
-- is flipped, whether it is armed, and the sums of its reading errors and of its clock's jumps.

-- the channels of which something is so
abbrev pub channels_where : (Channel → Bool) → Channels
channels_where p = record { a = p channel.A; b = p channel.B }

-- there is a bit among some
abbrev pub has_bits : List ℕ → Bool
has_bits [] = false
has_bits (bit ∷ bits) = true

-- what some events say of node k in a slot, all but what its host does
abbrev pub incidents_in : List Event → ℕ → ℕ → Incidents
incidents_in events k slot = record {
  send_silence = channels_where (λ c. list_any (is_send_fault fault.Silence k c slot) events);
  send_noise = channels_where (λ c. list_any (is_send_fault fault.Noise k c slot) events);
  receive_silence = channels_where (λ c. list_any (is_receive_fault fault.Silence k c slot) events);
  receive_noise = channels_where (λ c. list_any (is_receive_fault fault.Noise k c slot) events);
  has_flip = has_bits (filter_map (flipped_bit k channel.A slot) events)
      || has_bits (filter_map (flipped_bit k channel.B slot) events);
  armed = list_any (arms k slot) events;
  error = sum_ℤ (filter_map (error_in k slot) events);
  jump = sum_ℤ (filter_map (jump_in k slot) events);
}

-- Bounds.

-- a number of microticks lies within plus or minus a bound
abbrev pub IsWithinSpan : ℕ → ℤ → Type 0
IsWithinSpan bound z = (neg_ℤ (pos bound) ≤ℤ z) × (z ≤ℤ pos bound)

-- the number of an event is within its limit
abbrev pub IsBounded : Event → Type 0
IsBounded (event.Error node value from to) = IsWithinSpan ERROR_LIMIT value
IsBounded (event.Jump node value slot) = IsWithinSpan JUMP_LIMIT value
IsBounded _ = Unit {0}

-- the sums are within those of the most events, each at its limit
pub record AreBounded (incidents : Incidents) : Type 0 where
  pub error : IsWithinSpan (EVENT_LIMIT * ERROR_LIMIT) incidents.error
  pub jump : IsWithinSpan (EVENT_LIMIT * JUMP_LIMIT) incidents.jump
