-- What a frame may be, and the parts of which its bytes are made.
use Rattle.std.specs.Prelude.{◌≡◌, ℕ, ◌+◌, ◌-◌, ◌*◌, ◌^◌, ◌<◌, ◌≤◌, Bool, ◌&&◌, ◌||◌, ◌==◌, List, [], ◌++◌, length}
use Rattle.std.specs.Prelude.{take, drop, IsTrue, if◌then◌else◌}
use Rattle.std.specs.Str.{bytes_eq}
use Rattle.ttp_base.specs.NodeSet.{set_bits, members_in}
use Rattle.ttp_world.specs.declared.node.CState.{CState}
use Rattle.ttp_world.specs.Fitting.{header_in, carried_length}
use Rattle.ttp_world.specs.Frame.{bare_header, cold_start_header, is_explicit, cstate_bytes, word_bytes}
use Rattle.ttp_world.specs.Medl.{member_bytes}

-- frames of this header have no payload
abbrev pub is_without_payload : ℕ → Bool
is_without_payload header = (header == bare_header) || (header == cold_start_header)

-- the most bytes of payload
abbrev pub most_payload : ℕ
most_payload = 240

-- a frame may have this header and so many bytes of payload
pub record IsFrameShape (header size : ℕ) : Type 0 where
  pub known : header ≤ cold_start_header
  pub fits : size ≤ most_payload
  pub bare : IsTrue (is_without_payload header) → size ≡ 0

-- the word of these members has room in the C-state of a frame
abbrev pub HaveRoom : Bool → List ℕ → Type 0
HaveRoom wide members = set_bits members < 2 ^ (8 * member_bytes wide)

-- members that have their places in the C-state of a frame: they are those of a word that has room there
pub record HavePlaces (wide : Bool) (members : List ℕ) : Type 0 where
  pub room : HaveRoom wide members
  pub set : members_in (set_bits members) ≡ members

-- what of a C-state is sent in a frame of this header, and over what else of it the word goes
abbrev pub sent : ℕ → ℕ → CState → List ℕ
sent width header c = if is_explicit header then cstate_bytes width c else []

abbrev pub unsent : ℕ → ℕ → CState → List ℕ
unsent width header c = if is_explicit header then [] else cstate_bytes width c

-- header and length of the bytes are right
abbrev pub has_shape : ℕ → List ℕ → ℕ → ℕ → Bool
has_shape width bytes header size =
    (length bytes == 1 + carried_length width header + size + 3) && (header_in bytes == header)

-- these bytes stand behind the header
abbrev pub carries : List ℕ → List ℕ → Bool
carries piece bytes = bytes_eq (take (length piece) (drop 1 bytes)) piece

-- the last three bytes are the word of some bytes that are not sent and those before
abbrev pub has_word : ℕ → List ℕ → List ℕ → Bool
has_word start before bytes =
    bytes_eq (drop (length bytes - 3) bytes) (word_bytes start (before ++ take (length bytes - 3) bytes))
