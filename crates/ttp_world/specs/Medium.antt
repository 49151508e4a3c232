-- What a receiver hears on a channel, by what was sent in the slot and the script's faults.
use Rattle.std.specs.Prelude.{ℕ, ◌+◌, ◌-◌, ◌/◌, ◌%◌, ◌^◌, nat_lt, Bool, true, false, ◌&&◌, not, ◌==◌, List, [], ◌∷◌}
use Rattle.std.specs.Prelude.{filter, fold, map, length, if◌then◌else◌}
use Rattle.ttp_base.specs.NodeSet.{below}
use Rattle.ttp_world.specs.declared.node.Entry.{Entry}
use Rattle.ttp_world.specs.declared.node.Entry.TheVariants as entry
use Rattle.ttp_world.specs.declared.script.Channel.{Channel}
use Rattle.ttp_world.specs.declared.script.Channel.TheVariants as channel
use Rattle.ttp_world.specs.declared.script.Fault.TheVariants as fault
use Rattle.ttp_world.specs.declared.script.Script.{Script}
use Rattle.ttp_world.specs.Diary.{History, SlotSurroundings, Surroundings, entry_of}
use Rattle.ttp_world.specs.Script.{has_send_fault, has_receive_fault, flipped_bits, jump_of, drift_of}

-- a frame and the node that sends it
pub record SentFrame : Type 0 where
  pub sender : ℕ
  pub bytes : List ℕ

-- what is on a channel, or comes to a receiver
pub data Signal : Type 0 where
  Silence : Signal
  Noise : Signal
  Bits : (sender : ℕ) (bytes : List ℕ) → Signal

-- a signal is silence
abbrev pub is_silence : Signal → Bool
is_silence Silence = true
is_silence Noise = false
is_silence (Bits sender bytes) = false

-- Flipped bits. Bit 0 is the first byte's most significant; a bit past the end has no effect.

-- a byte with the bit at a place turned, counted from the least significant
abbrev pub flip_in_byte : ℕ → ℕ → ℕ
flip_in_byte place byte = if byte / 2 ^ place % 2 == 1 then byte - 2 ^ place else byte + 2 ^ place

-- bytes with one bit turned, where bit 0 is the first byte's most significant; a bit past the end has no effect
abbrev pub flip_bit : List ℕ → ℕ → List ℕ
flip_bit [] bit = []
flip_bit (byte ∷ bytes) bit =
    if nat_lt bit 8 then flip_in_byte (7 - bit) byte ∷ bytes else byte ∷ flip_bit bytes (bit - 8)

-- bytes with some bits turned, one after another
abbrev pub flip_bits : List ℕ → List ℕ → List ℕ
flip_bits bytes bits = fold flip_bit bytes bits

-- The channel.

-- the frames that their senders' faults don't silence, be it that they make them noise
abbrev pub remains : Script → ℕ → Channel → SentFrame → Bool
remains script slot c sent = not (has_send_fault script fault.Silence sent.sender c slot)

-- those of some frames
abbrev pub remaining_frames : Script → ℕ → Channel → List SentFrame → List SentFrame
remaining_frames script slot c frames = filter (remains script slot c) frames

-- one frame is heard as it is or as noise, and two or more are noise
abbrev pub signal_of : Script → ℕ → Channel → SentFrame → Signal
signal_of script slot c sent =
    if has_send_fault script fault.Noise sent.sender c slot then Noise
    else Bits sent.sender (flip_bits sent.bytes (flipped_bits script sent.sender c slot))

abbrev pub combined_signal : Script → ℕ → Channel → List SentFrame → Signal
combined_signal script slot c [] = Silence
combined_signal script slot c (sent ∷ []) = signal_of script slot c sent
combined_signal script slot c (sent ∷ more ∷ others) = Noise

-- what is on a channel in a slot in which these frames are sent
abbrev pub channel_signal : Script → ℕ → Channel → List SentFrame → Signal
channel_signal script slot c frames = combined_signal script slot c (remaining_frames script slot c frames)

-- The receiver.

-- what a receiver hears of a signal where its channel is noisy or not: no frame through noise
abbrev pub with_noise : Bool → Signal → Signal
with_noise noisy Silence = Silence
with_noise noisy Noise = Noise
with_noise noisy (Bits sender bytes) = if noisy then Noise else Bits sender bytes

-- what node r hears on a channel in a slot in which these frames are sent
abbrev pub heard : Script → ℕ → ℕ → Channel → List SentFrame → Signal
heard script slot r c frames =
    if has_receive_fault script fault.Silence r c slot then Silence
    else with_noise (has_receive_fault script fault.Noise r c slot) (channel_signal script slot c frames)

-- both channels are silent to node r
abbrev pub is_silent_to : Script → ℕ → ℕ → List SentFrame → Bool
is_silent_to script slot r frames =
    is_silence (heard script slot r channel.A frames) && is_silence (heard script slot r channel.B frames)

-- What the history tells of the medium: silence does not depend on what the frames held.

-- in an entry its node put a frame on the bus
abbrev pub is_sending : Entry → Bool
is_sending entry.Started = true
is_sending (entry.Sent message) = true
is_sending _ = false

-- a frame of node k without its bytes
abbrev pub sender_only : ℕ → SentFrame
sender_only k = record { sender = k; bytes = [] }

-- those that sent in a slot
abbrev pub senders_in : List Entry → List SentFrame
senders_in row = map sender_only (filter (λ k. is_sending (entry_of row k)) (below (length row)))

-- what came to node k from outside in the slot of a row, and in each slot of a history
abbrev pub surroundings_in : Script → ℕ → List Entry → ℕ → SlotSurroundings
surroundings_in script slot row k = record {
  jump = jump_of script k slot;
  drift = drift_of script k;
  is_silent = is_silent_to script slot k (senders_in row);
}

abbrev pub surroundings_of : Script → History → ℕ → Surroundings
surroundings_of script [] k = []
surroundings_of script (row ∷ history) k =
    surroundings_in script (length history) row k ∷ surroundings_of script history k
