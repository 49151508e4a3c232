-- Each line of the text of frames is one line: its one line feed is its last byte.
use Rattle.std.proofs.Common.{◌≡◌, ℕ, ◌+◌, Bool, true, false, cond, List, [], ◌∷◌}
use Rattle.std.proofs.Common.{◌++◌, map, length, take, drop, refl, arith}
use Rattle.std.proofs.Common.{codes, decimal}
use Rattle.std.specs.Prelude.{◌==◌, nat_le}
use Rattle.std.specs.Fmt.{signed_decimal}
use Rattle.std.proofs.lemmas.List.Folds.{list_any-append}
use Rattle.ttp_base.specs.Text.{newline, is_line, hex, hex_bytes}
use Rattle.ttp_base.proofs.Numerals.{has-signed, has-hex, has-hex_bytes}
use Rattle.ttp_world.specs.declared.medl.Medl.{Medl}
use Rattle.ttp_world.specs.declared.node.Entry.{Entry}
use Rattle.ttp_world.specs.declared.script.Channel.{Channel}
use Rattle.ttp_world.specs.declared.script.Channel.TheVariants as channel
use Rattle.ttp_world.specs.declared.script.Fault.TheVariants as fault
use Rattle.ttp_world.specs.declared.script.Script.{Script}
use Rattle.ttp_world.specs.Diary.{History}
use Rattle.ttp_world.specs.Fitting.{carried_length, payload_in}
use Rattle.ttp_world.specs.Frame.{bare_header, cstate_bytes, explicit_header, implicit_header}
use Rattle.ttp_world.specs.Medium.{SentFrame, Noise, Bits, remaining_frames, signal_of, flip_bits}
use Rattle.ttp_world.specs.Medl.{is_wide, member_width}
use Rattle.ttp_world.specs.Script.{has_send_fault, flipped_bits}
use Rattle.ttp_world.specs.World.{Numbers, slot_after, world}
use Rattle.ttp_world.proofs.LineLists.{each-append}
use Rattle.ttp_frame.specs.Match.{match_of}
use Rattle.ttp_frame.specs.declared.judging.FrameMatch.{FrameMatch}
use Rattle.ttp_frame.specs.declared.judging.FrameMatch.TheVariants.{Match, Differs, Invalid}
use Rattle.bus_frames.specs.declared.sending.Sending.{Sending}
use Rattle.bus_frames.specs.FrameText.{frame_head, channel_letter, frame_kind, match_word}
use Rattle.bus_frames.specs.FrameText.{spaced, byte_words, line_front}
use Rattle.bus_frames.specs.FrameText.{found_word, signal_line, frame_line, bus_line, channel_lines, frame_slot_lines}
use Rattle.bus_frames.specs.FrameText.{frame_history_lines, frame_lines}
use Rattle.bus_frames.specs.Sending.{frames_sent, sending_in}
use Rattle.lab_top.proofs.FromBelow.{HasNone, none-append, none-decimal}
use Rattle.commands.specs.Lines.{AreLines}
use Rattle.lab_top.proofs.CampaignLines.{ended}

-- The first line.

head-by : (version nodes rounds slots schedule : List ℕ) → HasNone version
    → HasNone nodes → HasNone rounds → HasNone slots
    → HasNone schedule
    → is_line (codes "ttplab frames " ++ version ++ codes " nodes " ++ nodes ++ codes " rounds " ++ rounds
    ++ codes " slots " ++ slots ++ codes " schedule " ++ schedule ++ newline) ≡ true
head-by version nodes rounds slots schedule p q r s t =
    ended (codes "ttplab frames " ++ version ++ codes " nodes " ++ nodes
    ++ codes " rounds " ++ rounds ++ codes " slots "
    ++ slots ++ codes " schedule " ++ schedule) (simp (list_any-append (λ c. c == 10), p, q, r, s, t))

head-is_line : (list : Medl) (script : Script) → is_line (frame_head list script) ≡ true
head-is_line list script =
    head-by (decimal list.version) (decimal (length list.slots)) (decimal list.rounds) (decimal script.slots)
    (hex 6 list.schedule) (none-decimal list.version) (none-decimal (length list.slots)) (none-decimal list.rounds)
    (none-decimal script.slots) (has-hex 10 6 list.schedule (omega arith))

-- Words.

letter-none : (c : Channel) → HasNone (channel_letter c)
letter-none channel.A = refl
letter-none channel.B = refl

by_kind : (n i x : Bool)
    → HasNone (cond n (codes "N") (cond i (codes "I") (cond x (codes "X") (codes "cold"))))
by_kind true i x = refl
by_kind false true x = refl
by_kind false false true = refl
by_kind false false false = refl

kind-none : (header : ℕ) → HasNone (frame_kind header)
kind-none header = by_kind (header == implicit_header) (header == bare_header) (header == explicit_header)

match-none : (found : FrameMatch) → HasNone (match_word found)
match-none Match = refl
match-none Differs = refl
match-none Invalid = refl

bytes-none : (bytes : List ℕ) → HasNone (hex_bytes bytes)
bytes-none bytes = has-hex_bytes 10 bytes (omega arith)

spaced-none : (bytes : List ℕ) → HasNone (spaced bytes)
spaced-none bytes = by_empty (length bytes == 0)
  where
    by_empty : (empty : Bool) → HasNone (cond empty [] (codes " " ++ hex_bytes bytes))
    by_empty true = refl
    by_empty false = none-append (codes " ") (hex_bytes bytes) refl (bytes-none bytes)

four-none : (a b c d : List ℕ) → HasNone a → HasNone b → HasNone c → HasNone d → HasNone (a ++ b ++ c ++ d)
four-none a b c d p q r s = simp (list_any-append (λ c. c == 10), p, q, r, s)

byte_words-none : (width header size : ℕ) (bytes : List ℕ) → HasNone (byte_words width header size bytes)
byte_words-none width header size bytes =
    let state = carried_length width header in
    four-none (spaced (take 1 bytes)) (spaced (take state (drop 1 bytes))) (spaced (payload_in width header size bytes))
    (spaced (drop (1 + state + size) bytes)) (spaced-none (take 1 bytes)) (spaced-none (take state (drop 1 bytes)))
    (spaced-none (payload_in width header size bytes)) (spaced-none (drop (1 + state + size) bytes))

-- A line.

front-by : (slot letter node kind word clock state : List ℕ) → HasNone slot
    → HasNone letter → HasNone node → HasNone kind
    → HasNone word → HasNone clock → HasNone state
    → HasNone (codes "slot " ++ slot ++ codes " " ++ letter ++ codes " node " ++ node ++ codes " " ++ kind ++ codes " "
    ++ word ++ codes " clock " ++ clock ++ codes " state " ++ state)
front-by slot letter node kind word clock state p q r s t u v =
    simp (list_any-append (λ c. c == 10), p, q, r, s, t, u, v)

front-none : (list : Medl) (slot : ℕ) (c : Channel) (sending : Sending) (word : List ℕ) → HasNone word
    → HasNone (line_front list slot c sending word)
front-none list slot c sending word none =
    front-by (decimal slot) (channel_letter c) (decimal sending.node) (frame_kind sending.header) word
    (signed_decimal sending.clock) (hex_bytes (cstate_bytes (member_width list) sending.state)) (none-decimal slot)
    (letter-none c) (none-decimal sending.node) (kind-none sending.header) none
    (has-signed 10 sending.clock (omega arith)) (bytes-none (cstate_bytes (member_width list) sending.state))

found-by : (front words : List ℕ) → HasNone front → HasNone words → is_line (front ++ words ++ newline) ≡ true
found-by front words p q = ended (front ++ words) (none-append front words p q)

noise-is_line : (list : Medl) (slot : ℕ) (c : Channel) (sending : Sending)
    → is_line (signal_line list slot c sending Noise) ≡ true
noise-is_line list slot c sending =
    ended (line_front list slot c sending (codes "noise")) (front-none list slot c sending (codes "noise") refl)

bits-is_line : (list : Medl) (slot : ℕ) (c : Channel) (sending : Sending) (k : ℕ) (bytes : List ℕ)
    → is_line (signal_line list slot c sending (Bits k bytes)) ≡ true
bits-is_line list slot c sending k bytes =
    found-by (line_front list slot c sending (found_word list sending bytes))
    (byte_words (member_width list) sending.header sending.size bytes)
    (front-none list slot c sending (found_word list sending bytes)
    (match-none (match_of (is_wide list) bytes sending.header sending.size list.schedule sending.state)))
    (byte_words-none (member_width list) sending.header sending.size bytes)

-- what remains on a channel is never silence
signal-is_line : (list : Medl) (slot : ℕ) (c : Channel) (sending : Sending) (noise : Bool) (k : ℕ) (bytes : List ℕ)
    → is_line (signal_line list slot c sending (cond noise Noise (Bits k bytes))) ≡ true
signal-is_line list slot c sending true k bytes = noise-is_line list slot c sending
signal-is_line list slot c sending false k bytes = bits-is_line list slot c sending k bytes

frame-is_line : (list : Medl) (script : Script) (slot t : ℕ) (c : Channel) (sending : Sending) (meets : Bool)
    (sent : SentFrame) → is_line (frame_line list slot c sending meets (signal_of script t c sent)) ≡ true
frame-is_line list script slot t c sending true sent =
    ended (line_front list slot c sending (codes "collision")) (front-none list slot c sending (codes "collision") refl)
frame-is_line list script slot t c sending false sent =
    signal-is_line list slot c sending (has_send_fault script fault.Noise sent.sender c t) sent.sender
    (flip_bits sent.bytes (flipped_bits script sent.sender c t))

-- Texts.

frames-each : (list : Medl) (script : Script) (before : History) (c : Channel) (there sent : List SentFrame)
    → AreLines (map (bus_line list script before c there) sent)
frames-each list script before c there [] = tt
frames-each list script before c there (frame ∷ sent) = (
  frame-is_line list script (length before) (length before) c (sending_in (slot_after list script before) frame.sender)
      (nat_le 2 (length there)) frame,
  frames-each list script before c there sent,
)

channel-each : (list : Medl) (script : Script) (row : List Entry) (before : History) (c : Channel)
    → AreLines (channel_lines list script row before c)
channel-each list script row before c =
    let there = remaining_frames script (length before) c (frames_sent list script row before) in
    frames-each list script before c there there

slot-each : (list : Medl) (script : Script) (row : List Entry) (before : History)
    → AreLines (frame_slot_lines list script row before)
slot-each list script row before =
    each-append (λ (line : List ℕ). is_line line ≡ true) (channel_lines list script row before channel.A)
    (channel_lines list script row before channel.B) (channel-each list script row before channel.A)
    (channel-each list script row before channel.B)

history-each : (list : Medl) (script : Script) (history : History) → AreLines (frame_history_lines list script history)
history-each list script [] = tt
history-each list script (row ∷ before) =
    each-append (λ (line : List ℕ). is_line line ≡ true) (frame_history_lines list script before)
    (frame_slot_lines list script row before) (history-each list script before) (slot-each list script row before)

pub frame_lines-each : (list : Medl) (script : Script) (numbers : Numbers) → AreLines (frame_lines list script numbers)
frame_lines-each list script numbers = (head-is_line list script, history-each list script (world list script numbers))
