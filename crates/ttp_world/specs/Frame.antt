-- Frames as bytes.
--
-- What a frame's membership takes is a number of bytes, here `width`, which is that of the list; everything else has
-- its place by the header.
use Rattle.std.specs.Prelude.{ℕ, zero, suc, ◌+◌, ◌/◌, ◌%◌, Bool, not, ◌==◌, List, [], ◌∷◌, ◌++◌, if◌then◌else◌}
use Rattle.ttp_base.specs.NodeSet.{set_bits}
use Rattle.ttp_world.specs.declared.medl.Kind.{Kind}
use Rattle.ttp_world.specs.declared.medl.Kind.TheVariants as kind
use Rattle.ttp_world.specs.declared.node.CState.{CState}
use Rattle.ttp_world.specs.CheckWord.{check_word}

-- the lowest bytes of a number, the most significant first
abbrev pub big_endian : ℕ → ℕ → List ℕ
big_endian zero v = []
big_endian (suc count) v = big_endian count (v / 256) ++ v % 256 ∷ []

-- time, round, slot, membership
abbrev pub cstate_bytes : ℕ → CState → List ℕ
cstate_bytes width c =
    big_endian 2 c.time ++ big_endian 1 c.round ++ big_endian 1 c.slot ++ big_endian width (set_bits c.members)

-- how many bytes a C-state has whose membership has so many
abbrev pub cstate_length : ℕ → ℕ
cstate_length width = 4 + width

-- Headers.

-- the header of a frame with payload that does not carry its C-state
abbrev pub implicit_header : ℕ
implicit_header = 0

-- that of a frame with its C-state and no payload
abbrev pub bare_header : ℕ
bare_header = 1

-- that of a frame with its C-state and payload
abbrev pub explicit_header : ℕ
explicit_header = 2

-- that of a cold-start frame, which carries its C-state alone
abbrev pub cold_start_header : ℕ
cold_start_header = 3

-- the header of a kind of frame
abbrev pub header_of : Kind → ℕ
header_of kind.N = implicit_header
header_of kind.I = bare_header
header_of kind.X = explicit_header

-- a frame with this header carries its C-state
abbrev pub is_explicit : ℕ → Bool
is_explicit header = not (header == implicit_header)

-- What a frame says before its check word, and what the word is computed over.

-- what a frame says before its check word: its header, its C-state where it carries it, and its payload
abbrev pub body : ℕ → ℕ → CState → List ℕ → List ℕ
body width header c payload = header ∷ ((if is_explicit header then cstate_bytes width c else []) ++ payload)

-- what the check word is computed over: the body, with the C-state before it where the frame does not carry it
abbrev pub checked : ℕ → ℕ → CState → List ℕ → List ℕ
checked width header c payload =
    if is_explicit header then body width header c payload else cstate_bytes width c ++ body width header c payload

-- the check word of bytes in three bytes, the most significant first
abbrev pub word_bytes : ℕ → List ℕ → List ℕ
word_bytes start bytes = big_endian 3 (check_word start bytes)

-- a frame
abbrev pub frame : ℕ → ℕ → CState → List ℕ → ℕ → List ℕ
frame width header c payload start = body width header c payload ++ word_bytes start (checked width header c payload)
