-- The way back: what the words of a line with bytes say.
use Rattle.std.specs.Prelude.{◌≡◌, ℕ, ◌+◌, ◌^◌, ◌<◌, ◌≤◌, ◌==◌, ℤ, unsigned_abs}
use Rattle.std.specs.Prelude.{Bool, true, false, not, List, [], ◌∷◌, ◌++◌}
use Rattle.std.specs.Prelude.{length, take, drop, codes, Some, if◌then◌else◌}
use Rattle.std.specs.List.{list_all}
use Rattle.line_form.specs.Forms.{LineForm, ◌▸◌, Values, line_values, spelled, spelled_line}
use Rattle.line_form.specs.Kinds.{is_byte, number, one_of, payload, signed}
use Rattle.ttp_world.specs.declared.medl.Medl.{Medl}
use Rattle.ttp_world.specs.declared.script.Channel.{Channel}
use Rattle.ttp_world.specs.declared.script.Channel.TheVariants as channel
use Rattle.ttp_world.specs.Fitting.{carried_length, payload_in}
use Rattle.ttp_world.specs.Frame.{bare_header, cstate_bytes, explicit_header, implicit_header, is_explicit}
use Rattle.ttp_world.specs.Medl.{is_wide, member_width}
use Rattle.ttp_frame.specs.Match.{match_of}
use Rattle.ttp_frame.specs.declared.judging.FrameMatch.{FrameMatch}
use Rattle.ttp_frame.specs.declared.judging.FrameMatch.TheVariants.{Match, Differs, Invalid}
use Rattle.bus_frames.specs.declared.sending.Sending.{Sending}

-- The form of a line.

abbrev pub letters : List (List ℕ)
letters = codes "A" ∷ codes "B" ∷ []

-- in the order of their headers
abbrev pub kinds : List (List ℕ)
kinds = codes "N" ∷ codes "I" ∷ codes "X" ∷ codes "cold" ∷ []

abbrev pub matches : List (List ℕ)
matches = codes "match" ∷ codes "differs" ∷ codes "invalid" ∷ []

-- the words of the bytes: the header, the C-state and the payload where the frame has them, and the check word
abbrev pub byte_form : Bool → Bool → LineForm
byte_form true true =
    codes " " ▸ payload 1 ∷ codes " " ▸ payload 7 ∷ codes " " ▸ payload 240 ∷ codes " " ▸ payload 3 ∷ []
byte_form true false = codes " " ▸ payload 1 ∷ codes " " ▸ payload 7 ∷ codes " " ▸ payload 3 ∷ []
byte_form false true = codes " " ▸ payload 1 ∷ codes " " ▸ payload 240 ∷ codes " " ▸ payload 3 ∷ []
byte_form false false = codes " " ▸ payload 1 ∷ codes " " ▸ payload 3 ∷ []

-- a line of a frame that carries its C-state or not, and a payload or not
abbrev pub frame_form : Bool → Bool → LineForm
frame_form stated loaded =
    codes "slot " ▸ number 100000 ∷ codes " " ▸ one_of letters ∷ codes " node " ▸ number 256 ∷ codes " " ▸ one_of kinds
    ∷ codes " " ▸ one_of matches ∷ codes " clock " ▸ signed (10 ^ 18) ∷ codes " state " ▸ payload 7
    ∷ byte_form stated loaded

-- Its values.

abbrev pub letter_place : Channel → ℕ
letter_place channel.A = 0
letter_place channel.B = 1

abbrev pub match_place : FrameMatch → ℕ
match_place Match = 0
match_place Differs = 1
match_place Invalid = 2

-- the kind of a frame with this header
abbrev pub kind_place : ℕ → ℕ
kind_place header =
    if header == implicit_header then 0
    else (if header == bare_header then 1 else (if header == explicit_header then 2 else 3))

-- the parts of a frame's bytes
pub record FrameParts : Type 0 where
  pub header : List ℕ
  pub state : List ℕ
  pub load : List ℕ
  pub check : List ℕ

abbrev pub frame_parts : ℕ → ℕ → ℕ → List ℕ → FrameParts
frame_parts width header size bytes = record {
  header = take 1 bytes;
  state = take (carried_length width header) (drop 1 bytes);
  load = payload_in width header size bytes;
  check = drop (1 + carried_length width header + size) bytes;
}

-- put together they are the bytes
abbrev pub bytes_of_parts : FrameParts → List ℕ
bytes_of_parts parts = parts.header ++ (parts.state ++ (parts.load ++ parts.check))

abbrev pub byte_values : (stated loaded : Bool) → FrameParts → Values (byte_form stated loaded)
byte_values true true parts = (parts.header, (parts.state, (parts.load, (parts.check, tt))))
byte_values true false parts = (parts.header, (parts.state, (parts.check, tt)))
byte_values false true parts = (parts.header, (parts.load, (parts.check, tt)))
byte_values false false parts = (parts.header, (parts.check, tt))

-- What a line says: the slot, the channel, the sender, its kind of frame, what the bytes are to a receiver that expects
-- a frame of this kind and size with the C-state that is told, the sender's clock and C-state, and the bytes.
abbrev pub frame_values : (list : Medl) → ℕ → Channel → (sending : Sending) → List ℕ
    → Values (frame_form (is_explicit sending.header) (not (sending.size == 0)))
frame_values list slot c sending bytes = (
  slot,
  (
    letter_place c,
    (
      sending.node,
      (
        kind_place sending.header,
        (
          match_place (match_of (is_wide list) bytes sending.header sending.size list.schedule sending.state),
          (
            sending.clock,
            (
              cstate_bytes (member_width list) sending.state,
              byte_values (is_explicit sending.header) (not (sending.size == 0))
                  (frame_parts (member_width list) sending.header sending.size bytes),
            ),
          ),
        ),
      ),
    ),
  ),
)

-- numbers and bytes as they are in a run
pub record IsToldFrame (list : Medl) (slot : ℕ) (sending : Sending) (bytes : List ℕ) : Type 0 where
  pub slot_few : slot < 100000
  pub node : sending.node < 256
  pub clock : unsigned_abs sending.clock < 10 ^ 18
  pub size : sending.size ≤ 240
  pub long : length bytes ≡ 1 + carried_length (member_width list) sending.header + sending.size + 3
  pub are : list_all is_byte bytes ≡ true

-- a line is read as these values alone, and its parts are the bytes
pub record IsReadBack (list : Medl) (slot : ℕ) (c : Channel) (sending : Sending) (bytes line : List ℕ) : Type 0 where
  pub text : line
      ≡ spelled_line (frame_form (is_explicit sending.header) (not (sending.size == 0)))
      (frame_values list slot c sending bytes)
  pub read : line_values (frame_form (is_explicit sending.header) (not (sending.size == 0)))
      (spelled (frame_form (is_explicit sending.header) (not (sending.size == 0)))
      (frame_values list slot c sending bytes))
      ≡ Some (frame_values list slot c sending bytes)
  pub whole : bytes_of_parts (frame_parts (member_width list) sending.header sending.size bytes) ≡ bytes
