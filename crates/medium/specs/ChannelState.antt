-- What is on a channel, and what a frame that is put makes of it.
use Rattle.std.specs.Prelude.{ℕ, ℤ, pos, Bool, List, if◌then◌else◌}
use Rattle.ttp_world.specs.Medium.{Signal, Silence, Noise, Bits}
use Rattle.medium.specs.declared.channel_state.Content.{Content}
use Rattle.medium.specs.declared.channel_state.Content.TheVariants as content
use Rattle.medium.specs.Carried.{OnChannel}

-- a channel on which nothing is
abbrev pub nothing : OnChannel
nothing = record { signal = Silence; offset = pos 0 }

-- a channel with noise
abbrev pub noise : OnChannel
noise = record { signal = Noise; offset = pos 0 }

-- the bits of a node whose clock is so far ahead
abbrev pub bits : ℕ → List ℕ → ℤ → OnChannel
bits sender bytes offset = record { signal = Bits sender bytes; offset = offset }

-- what a channel's state says, where the frame that it keeps has these bytes
abbrev pub on_channel : Content → List ℕ → OnChannel
on_channel content.Silence bytes = nothing
on_channel content.Noise bytes = noise
on_channel (content.Bits sender offset) bytes = bits sender bytes offset

-- something comes on a channel: what meets something else there is noise
abbrev pub meet : Signal → OnChannel → OnChannel
meet Silence new = new
meet Noise new = noise
meet (Bits sender bytes) new = noise

-- a frame is put that its sender's faults silence or make noise, or leave
abbrev pub with_frame : OnChannel → Bool → Bool → OnChannel → OnChannel
with_frame there silenced noisy frame = if silenced then there else meet there.signal (if noisy then noise else frame)
