-- The lines of a script that have a part in what a node hears.
use Rattle.std.specs.List.{filter_map}
use Rattle.std.specs.Option.{option_or}
use Rattle.std.specs.Prelude.{Bool, List, None, Option, Some, [], count_by, false, filter, length, map, nat_lt, not}
use Rattle.std.specs.Prelude.{suc, true, ℕ, ◌%◌, ◌&&◌, ◌*◌, ◌==◌, ◌||◌, ◌∷◌}
use Rattle.std.specs.Str.{bytes_eq}
use Rattle.causes.specs.RunSlots.{RunSlot, node_spot}
use Rattle.causes.specs.Sources.{Sources, no_sources, only_entries, only_lines, with_sources}
use Rattle.causes.specs.declared.cause.ScriptLine.{ScriptLine}
use Rattle.causes.specs.declared.cause.Spot.{Spot}
use Rattle.ttp_world.specs.Events.{flipped_bit, is_receive_fault, is_send_fault}
use Rattle.ttp_world.specs.Medium.{Bits, Noise, SentFrame, Signal, Silence, heard, remaining_frames}
use Rattle.ttp_world.specs.Script.{flipped_bits}
use Rattle.ttp_world.specs.declared.script.Channel.{Channel}
use Rattle.ttp_world.specs.declared.script.Event.{Event}
use Rattle.ttp_world.specs.declared.script.Fault.{Fault}
use Rattle.ttp_world.specs.declared.script.Script.{Script}
use Rattle.ttp_world.specs.declared.script.Channel.TheVariants as channel
use Rattle.ttp_world.specs.declared.script.Event.TheVariants as event
use Rattle.ttp_world.specs.declared.script.Fault.TheVariants as fault
use Rattle.causes.specs.declared.cause.ScriptLine.TheVariants as line

-- the places of such events among a script's events, ascending, where the first has this place
abbrev pub places_from : ℕ → (Event → Bool) → List Event → List ℕ
places_from place p [] = []
places_from place p (event ∷ events) =
    elim (p event) [ true ↦ place ∷ places_from (suc place) p events | false ↦ places_from (suc place) p events ]

-- the lines of these events
abbrev pub lines_where : (Event → Bool) → Script → List ScriptLine
lines_where p script = map line.Event (places_from 0 p script.events)

-- the first of some lines
abbrev pub first_line : List ScriptLine → Option ScriptLine
first_line [] = None
first_line (l ∷ lines) = Some l

-- a loss on both channels
abbrev pub is_on_both : Event → Bool
is_on_both (event.Send node channels kind from to) = channels.a && channels.b
is_on_both (event.Receive node channels kind from to) = channels.a && channels.b
is_on_both _ = false

-- of such lines the first with channels AB, or else the first
abbrev pub widest_line : (Event → Bool) → Script → Option ScriptLine
widest_line p script =
    option_or (first_line (lines_where (λ e. p e && is_on_both e) script)) (first_line (lines_where p script))

-- a loss on a channel at receiver k, or, where one node alone sent, at this one
abbrev pub strikes : Fault → ℕ → Channel → ℕ → List ℕ → Event → Bool
strikes kind k c slot (p ∷ []) e = is_receive_fault kind k c slot e || is_send_fault kind p c slot e
strikes kind k c slot _ e = is_receive_fault kind k c slot e

-- the silencing lines of a channel to node k, where these nodes sent
abbrev pub own_silencing_lines : Script → Channel → ℕ → List ℕ → Option ScriptLine → List ScriptLine
own_silencing_lines script c slot senders (Some l) = l ∷ []
own_silencing_lines script c slot senders None =
    filter_map (λ p. widest_line (is_send_fault fault.Silence p c slot) script) senders

abbrev pub silencing_lines : Script → ℕ → Channel → ℕ → List ℕ → List ScriptLine
silencing_lines script k c slot senders =
    own_silencing_lines script c slot senders (widest_line (strikes fault.Silence k c slot senders) script)

-- the nodes of some frames
abbrev pub senders_of : List SentFrame → List ℕ
senders_of frames = map (λ sent. sent.sender) frames

-- the nodes of which something remains on a channel
abbrev pub remaining_in : Channel → RunSlot → List ℕ
remaining_in c s = senders_of (remaining_frames s.begun.script s.begun.number c s.frames)

-- the silencing lines of a slot in which somebody sent
abbrev pub silencing_in : ℕ → RunSlot → Channel → List ScriptLine
silencing_in k s c = silencing_lines s.begun.script k c s.begun.number (senders_of s.frames)

-- the noisy line, if there is one
abbrev pub noisy_in : ℕ → RunSlot → Channel → Option ScriptLine
noisy_in k s c = widest_line (strikes fault.Noise k c s.begun.number (remaining_in c s)) s.begun.script

-- Flips.

-- each number once, where it stands first
abbrev pub each_first : List ℕ → List ℕ
each_first [] = []
each_first (bit ∷ bits) = bit ∷ filter (λ other. not (other == bit)) (each_first bits)

-- a bit within so many bytes that an odd number of flips turn
abbrev pub is_turned : List ℕ → ℕ → ℕ → Bool
is_turned bits size bit = nat_lt bit (8 * size) && (count_by (λ other. other == bit) bits % 2 == 1)

-- an event flips this bit of node p's frame on a channel in a slot
abbrev pub is_bit : ℕ → Option ℕ → Bool
is_bit bit None = false
is_bit bit (Some other) = other == bit

abbrev pub flips_bit : ℕ → Channel → ℕ → ℕ → Event → Bool
flips_bit p c slot bit e = is_bit bit (flipped_bit p c slot e)

-- the lines of flips of a frame of so many bytes, ascending
abbrev pub flipping_lines : Script → ℕ → Channel → ℕ → ℕ → List ScriptLine
flipping_lines script p c slot size =
    let bits = flipped_bits script p c slot in
    filter_map (λ bit. first_line (lines_where (flips_bit p c slot bit) script))
    (filter (is_turned bits size) (each_first bits))

-- What spoils.

-- what node k hears on a channel
abbrev pub heard_in : ℕ → RunSlot → Channel → Signal
heard_in k s c = heard s.begun.script s.begun.number k c s.frames

-- the entries in a slot of some nodes
abbrev pub spots_in : RunSlot → List ℕ → List Spot
spots_in s nodes = map (λ p. node_spot p s) nodes

-- what makes noise: a line, or else the nodes whose frames meet
abbrev pub noise_sources : Channel → RunSlot → Option ScriptLine → Sources
noise_sources c s (Some l) = only_lines (l ∷ [])
noise_sources c s None = only_entries (spots_in s (remaining_in c s))

-- what spoils a channel on which this is heard
abbrev pub spoilt_by : ℕ → RunSlot → Channel → Signal → Sources
spoilt_by k s c Silence = only_lines (silencing_in k s c)
spoilt_by k s c Noise = noise_sources c s (noisy_in k s c)
spoilt_by k s c (Bits p bytes) = only_lines (flipping_lines s.begun.script p c s.begun.number (length bytes))

-- somebody sends
abbrev pub has_frames : List SentFrame → Bool
has_frames [] = false
has_frames (sent ∷ others) = true

-- what spoils both channels to node k in a slot
abbrev pub spoilt_in : ℕ → RunSlot → Sources
spoilt_in k s = elim (has_frames s.frames) [
  | true ↦ with_sources (spoilt_by k s channel.A (heard_in k s channel.A))
      (spoilt_by k s channel.B (heard_in k s channel.B))
  | false ↦ no_sources
]

-- the bytes of a node's frame as it was sent
abbrev pub bytes_sent : List SentFrame → ℕ → List ℕ
bytes_sent [] p = []
bytes_sent (sent ∷ others) p = elim (sent.sender == p) [ true ↦ sent.bytes | false ↦ bytes_sent others p ]

-- bytes are the frame of node p as it was sent
abbrev pub is_as_sent : RunSlot → ℕ → List ℕ → Bool
is_as_sent s p bytes = bytes_eq bytes (bytes_sent s.frames p)
