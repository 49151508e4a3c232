-- The bytes of a frame that is to be sent.
use Rattle.std.specs.Prelude.{ℕ, List}
use Rattle.ttp_world.specs.Frame.{frame}
use Rattle.ttp_world.specs.Medl.{member_bytes}
use Rattle.ttp_frame.specs.Bytes.{xor_bytes}
use Rattle.ttp_frame.specs.declared.frame.FrameIn.{FrameIn}

-- the bytes of a frame, where check words go from this start
abbrev pub bytes_of : FrameIn → ℕ → List ℕ
bytes_of f start = frame (member_bytes f.wide) f.header f.cstate f.payload.now start

-- with some of its bits flipped
abbrev pub flipped_bytes : FrameIn → ℕ → List ℕ → List ℕ
flipped_bytes f start flips = xor_bytes (bytes_of f start) flips
