-- Frames of a cluster of five nodes in two rounds, whose schedule is 001234.
use Rattle.std.specs.Prelude.{ℕ, pos, List, [], ◌∷◌}
use Rattle.ttp_world.specs.declared.medl.Medl.{Medl}
use Rattle.ttp_world.specs.Medium.{flip_bits}
use Rattle.bus_frames.specs.declared.sending.Sending.{Sending}
use Rattle.bus_frames.specs.Standing.{frame_with}

-- what a line asks of the list: its version and its schedule
abbrev pub five_senders : Medl
five_senders = record {
  version = 1;
  rounds = 2;
  schedule = 4660;
  buffers = 2;
  drift = pos 0;
  error = pos 0;
  window = pos 1;
  modes = 1;
  slots = [];
}

-- what a node sends with these members, whose clock shows 0
abbrev pub sends_at : ℕ → ℕ → ℕ → ℕ → ℕ → List ℕ → Sending
sends_at node header size time round members = record {
  node = node;
  header = header;
  size = size;
  state = record { time = time; round = round; slot = node; members = members };
  clock = pos 0;
}

abbrev pub all_five : List ℕ
all_five = 0 ∷ 1 ∷ 2 ∷ 3 ∷ 4 ∷ []

-- the bytes of its frame with some bits flipped
abbrev pub bytes_behind : Sending → List ℕ → List ℕ → List ℕ
bytes_behind sending payload bits = flip_bits (frame_with five_senders sending payload) bits
