-- When bytes are a frame, and of which C-state.
use Rattle.std.specs.Prelude.{ℕ, ◌+◌, ◌-◌, ◌*◌, Bool, true, ◌&&◌, ◌||◌, ◌==◌, nat_lt, List, length, take, drop}
use Rattle.std.specs.Prelude.{slice_index, fold, Option, Some, None, if◌then◌else◌}
use Rattle.std.specs.List.{list_all}
use Rattle.std.specs.Str.{bytes_eq}
use Rattle.ttp_base.specs.NodeSet.{has_node, members_in}
use Rattle.ttp_world.specs.declared.medl.Medl.{Medl}
use Rattle.ttp_world.specs.declared.node.CState.{CState}
use Rattle.ttp_world.specs.Medl.{member_width, kind_at, payload_length, may_start}
use Rattle.ttp_world.specs.Frame.{cstate_length, cold_start_header, header_of, is_explicit, word_bytes, frame}

-- What stands where in the bytes of a frame.

-- the header of a frame: its first byte
abbrev pub header_in : List ℕ → ℕ
header_in bytes = slice_index bytes 0

-- the bytes of the C-state in a frame with this header
abbrev pub carried_length : ℕ → ℕ → ℕ
carried_length width header = if is_explicit header then cstate_length width else 0

-- the bytes that stand in the payload's place
abbrev pub payload_in : ℕ → ℕ → ℕ → List ℕ → List ℕ
payload_in width header size bytes = take size (drop (1 + carried_length width header) bytes)

-- a number with one byte more
abbrev pub append_byte : ℕ → ℕ → ℕ
append_byte v byte = 256 * v + byte

-- the number that bytes are, the most significant first
abbrev pub number_in : List ℕ → ℕ
number_in bytes = fold append_byte 0 bytes

-- the C-state that an explicit frame carries
abbrev pub carried : ℕ → List ℕ → CState
carried width bytes = record {
  time = number_in (take 2 (drop 1 bytes));
  round = slice_index bytes 3;
  slot = slice_index bytes 4;
  members = members_in (number_in (take width (drop 5 bytes)));
}

-- the bytes are the frame of this C-state, whatever its payload of this size
abbrev pub fits : ℕ → List ℕ → ℕ → ℕ → ℕ → CState → Bool
fits width bytes header size start c = bytes_eq bytes (frame width header c (payload_in width header size bytes) start)

-- the last three bytes are the word of those before
abbrev pub has_right_word : List ℕ → ℕ → Bool
has_right_word bytes start =
    bytes_eq (drop (length bytes - 3) bytes) (word_bytes start (take (length bytes - 3) bytes))

-- header and length are right, and so is the word of an explicit frame for the C-state that it carries
abbrev pub is_formed : ℕ → List ℕ → ℕ → ℕ → ℕ → Bool
is_formed width bytes header size start =
    (length bytes == 1 + carried_length width header + size + 3)
    && ((header_in bytes == header)
    && (if is_explicit header then has_right_word bytes start else true))

-- Frames on which a node joins: cold-start frames of slots that may start, and explicit frames of the list.

-- round, slot and members exist in the list, and the owner of the slot is a member
abbrev pub is_joinable_state : Medl → CState → Bool
is_joinable_state list c =
    nat_lt c.round list.rounds
    && (nat_lt c.slot (length list.slots)
    && (list_all (λ k. nat_lt k (length list.slots)) c.members
    && has_node c.members c.slot))

-- bytes are the cold-start frame of a slot that may start
abbrev pub is_cold_start : Medl → List ℕ → CState → Bool
is_cold_start list bytes c =
    is_formed (member_width list) bytes cold_start_header 0 list.schedule && may_start list c.slot

-- bytes are an explicit frame where the list gives its kind for the round and slot of its C-state
abbrev pub is_listed_explicit : Medl → List ℕ → CState → Bool
is_listed_explicit list bytes c =
    is_explicit (header_of (kind_at list c.round c.slot))
    && is_formed (member_width list) bytes (header_of (kind_at list c.round c.slot))
    (payload_length list c.round c.slot) list.schedule

-- the C-state that bytes carry, where a node may join on it
abbrev pub joinable_cstate : Medl → List ℕ → CState → Option CState
joinable_cstate list bytes c =
    if is_joinable_state list c && (is_cold_start list bytes c || is_listed_explicit list bytes c) then Some c else None

-- the C-state on which a node joins that hears these bytes, where they are a joinable frame
abbrev pub joinable : Medl → List ℕ → Option CState
joinable list bytes = joinable_cstate list bytes (carried (member_width list) bytes)
