-- The text of frames: for each slot and each channel of the bus the frames that nodes put there, byte by byte.
use Rattle.std.specs.Prelude.{ℕ, ◌+◌, ◌==◌, nat_le, Bool, true, false, List, [], ◌∷◌, ◌++◌, map, length, take, drop}
use Rattle.std.specs.Prelude.{if◌then◌else◌, codes, decimal}
use Rattle.std.specs.Fmt.{signed_decimal}
use Rattle.ttp_base.specs.Text.{Lines, newline, hex, hex_bytes}
use Rattle.ttp_world.specs.declared.medl.Medl.{Medl}
use Rattle.ttp_world.specs.declared.node.Entry.{Entry}
use Rattle.ttp_world.specs.declared.script.Channel.{Channel}
use Rattle.ttp_world.specs.declared.script.Channel.TheVariants as channel
use Rattle.ttp_world.specs.declared.script.Script.{Script}
use Rattle.ttp_world.specs.Diary.{History}
use Rattle.ttp_world.specs.Fitting.{carried_length, payload_in}
use Rattle.ttp_world.specs.Frame.{bare_header, cstate_bytes, explicit_header, implicit_header}
use Rattle.ttp_world.specs.Medium.{SentFrame, Signal, Silence, Noise, Bits, remaining_frames, signal_of}
use Rattle.ttp_world.specs.Medl.{is_wide, member_width}
use Rattle.ttp_world.specs.World.{Numbers, slot_after, world}
use Rattle.ttp_frame.specs.Match.{match_of}
use Rattle.ttp_frame.specs.declared.judging.FrameMatch.{FrameMatch}
use Rattle.ttp_frame.specs.declared.judging.FrameMatch.TheVariants.{Match, Differs, Invalid}
use Rattle.bus_frames.specs.declared.sending.Sending.{Sending}
use Rattle.bus_frames.specs.Sending.{frames_sent, sending_in}

-- the first line
abbrev pub frame_head : Medl → Script → List ℕ
frame_head list script =
    codes "ttplab frames " ++ decimal list.version
    ++ codes " nodes " ++ decimal (length list.slots)
    ++ codes " rounds " ++ decimal list.rounds
    ++ codes " slots " ++ decimal script.slots
    ++ codes " schedule " ++ hex 6 list.schedule ++ newline

-- Words.

-- the letter of a channel
abbrev pub channel_letter : Channel → List ℕ
channel_letter channel.A = codes "A"
channel_letter channel.B = codes "B"

-- the word for the kind of a frame with this header
abbrev pub frame_kind : ℕ → List ℕ
frame_kind header =
    if header == implicit_header then codes "N"
    else (if header == bare_header then codes "I" else (if header == explicit_header then codes "X" else codes "cold"))

-- the word for what bytes are to a receiver that expects the frame
abbrev pub match_word : FrameMatch → List ℕ
match_word Match = codes "match"
match_word Differs = codes "differs"
match_word Invalid = codes "invalid"

-- Bytes.

-- the digits of bytes behind a space; nothing where there are none
abbrev pub spaced : List ℕ → List ℕ
spaced bytes = if length bytes == 0 then [] else codes " " ++ hex_bytes bytes

-- the bytes of a frame with this header and size: its header, its C-state, its payload and its check word
abbrev pub byte_words : ℕ → ℕ → ℕ → List ℕ → List ℕ
byte_words width header size bytes =
    let state = carried_length width header in
    spaced (take 1 bytes) ++ spaced (take state (drop 1 bytes)) ++ spaced (payload_in width header size bytes)
    ++ spaced (drop (1 + state + size) bytes)

-- A line.

-- its words before the bytes
abbrev pub line_front : Medl → ℕ → Channel → Sending → List ℕ → List ℕ
line_front list slot c sending word =
    codes "slot " ++ decimal slot ++ codes " " ++ channel_letter c ++ codes " node " ++ decimal sending.node
    ++ codes " " ++ frame_kind sending.header ++ codes " " ++ word
    ++ codes " clock " ++ signed_decimal sending.clock
    ++ codes " state " ++ hex_bytes (cstate_bytes (member_width list) sending.state)

-- what came of the frame on the channel, and the bytes
abbrev pub found_word : Medl → Sending → List ℕ → List ℕ
found_word list sending bytes =
    match_word (match_of (is_wide list) bytes sending.header sending.size list.schedule sending.state)

-- the line of a frame of which this alone is on the channel
abbrev pub signal_line : Medl → ℕ → Channel → Sending → Signal → List ℕ
signal_line list slot c sending Silence = []
signal_line list slot c sending Noise = line_front list slot c sending (codes "noise") ++ newline
signal_line list slot c sending (Bits k bytes) =
    line_front list slot c sending (found_word list sending bytes)
    ++ byte_words (member_width list) sending.header sending.size bytes ++ newline

-- the line of a frame, which meets another on the channel or does not
abbrev pub frame_line : Medl → ℕ → Channel → Sending → Bool → Signal → List ℕ
frame_line list slot c sending true s = line_front list slot c sending (codes "collision") ++ newline
frame_line list slot c sending false s = signal_line list slot c sending s

-- the line of one of the frames that remain on a channel in the slot after a history
abbrev pub bus_line : Medl → Script → History → Channel → List SentFrame → SentFrame → List ℕ
bus_line list script before c there sent =
    frame_line list (length before) c (sending_in (slot_after list script before) sent.sender) (nat_le 2 (length there))
    (signal_of script (length before) c sent)

-- Texts.

-- a channel in the slot of a row
abbrev pub channel_lines : Medl → Script → List Entry → History → Channel → Lines
channel_lines list script row before c =
    let there = remaining_frames script (length before) c (frames_sent list script row before) in
    map (bus_line list script before c there) there

-- a slot
abbrev pub frame_slot_lines : Medl → Script → List Entry → History → Lines
frame_slot_lines list script row before =
    channel_lines list script row before channel.A ++ channel_lines list script row before channel.B

-- the oldest slot first
abbrev pub frame_history_lines : Medl → Script → History → Lines
frame_history_lines list script [] = []
frame_history_lines list script (row ∷ before) =
    frame_history_lines list script before ++ frame_slot_lines list script row before

-- the text of frames of a run
abbrev pub frame_lines : Medl → Script → Numbers → Lines
frame_lines list script numbers = frame_head list script ∷ frame_history_lines list script (world list script numbers)
