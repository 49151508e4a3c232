-- What is written to a port's rings.
use Rattle.std.specs.Prelude.{◌≡◌, ℕ, ◌<◌, ◌≤◌, List, Option, option_map, IsSomeAnd, slice_set}
use Rattle.nbw_ring.specs.Numbers.{most_number, newest_number}
use Rattle.nbw_ring.specs.States.{WriterState, with_message}
use Rattle.ttp_world.specs.declared.script.Source.{Source}
use Rattle.ttp_world.specs.declared.script.TheConstants.{PAYLOAD_LIMIT}
use Rattle.ttp_world.specs.Words.{word_count}
use Rattle.host_port.specs.Rings.{ControllerState, at_source, source_place}

-- a ring's writer with one message more, if there is one
abbrev pub written : Option WriterState → List ℕ → Option WriterState
written writer words = option_map (λ w. with_message w words) writer

-- the ring of this source has one message more, and every other is as it was
abbrev pub written_at : ControllerState → Source → List ℕ → ControllerState
written_at end from words = slice_set end (source_place from) (written (at_source end from) words)

-- there is a ring, which takes one message more
abbrev pub HasRoom : Option WriterState → Type 0
HasRoom writer = IsSomeAnd writer (λ w. newest_number w.messages < most_number)

-- there is a ring, and payloads of this length fill its messages
abbrev pub Takes : Option WriterState → ℕ → Type 0
Takes writer size = IsSomeAnd writer (λ w. (size ≤ PAYLOAD_LIMIT) × (word_count size ≡ w.ring.shape.width))

-- the newest message of the ring has this number
abbrev pub IsNewest : Option WriterState → ℕ → Type 0
IsNewest writer number = IsSomeAnd writer (λ w. number ≡ newest_number w.messages)
