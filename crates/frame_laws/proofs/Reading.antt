-- A line with bytes is read back.
use Rattle.std.proofs.Common.{◌≡◌, ℕ, zero, suc, ◌+◌, ◌-◌, ◌*◌, ◌/◌, ◌%◌, ◌^◌}
use Rattle.std.proofs.Common.{◌<◌, ◌≤◌, Bool, true, false, cond, ◌&&◌, not}
use Rattle.std.proofs.Common.{List, [], ◌∷◌, ◌++◌, length, take, drop, codes, get_or, refl, ap, sym, subst, ◌∙◌, arith}
use Rattle.std.proofs.Common.{append_assoc, true≢false, length-append, length-take, length-drop, decimal}
use Rattle.std.specs.Prelude.{◌==◌, nat_le, nat_lt, ℤ, unsigned_abs, if◌then◌else◌}
use Rattle.std.specs.Fmt.{signed_decimal}
use Rattle.std.specs.List.{list_all}
use Rattle.std.proofs.lemmas.Bool.{and_parts}
use Rattle.std.proofs.lemmas.Bool.Decides.{nat_tests}
use Rattle.std.proofs.lemmas.List.{append-nil, take-append-drop, drop-drop}
use Rattle.line_form.specs.Forms.{LineForm, Values, fit, well, line_values, spelled, spelled_before, spelled_line}
use Rattle.line_form.specs.Kinds.{fits_kind, is_byte, payload, signed}
use Rattle.frame_laws.proofs.FromBelow.{read_again, both_true, is_le, is_lt, length-cstate_bytes}
use Rattle.ttp_base.proofs.Gathered.{gathered}
use Rattle.ttp_base.specs.NodeSet.{set_bits}
use Rattle.ttp_base.specs.Text.{hex_bytes, newline}
use Rattle.ttp_world.specs.declared.medl.Medl.{Medl}
use Rattle.ttp_world.specs.declared.node.CState.{CState}
use Rattle.ttp_world.specs.declared.script.Channel.{Channel}
use Rattle.ttp_world.specs.declared.script.Channel.TheVariants as channel
use Rattle.ttp_world.specs.Fitting.{carried_length, payload_in}
use Rattle.ttp_world.specs.Frame.{bare_header, big_endian, cstate_bytes, explicit_header, implicit_header, is_explicit}
use Rattle.ttp_world.specs.Medium.{Bits}
use Rattle.ttp_world.specs.Medl.{is_wide, member_bytes, member_width}
use Rattle.ttp_frame.specs.Match.{match_of}
use Rattle.ttp_frame.specs.declared.judging.FrameMatch.{FrameMatch}
use Rattle.ttp_frame.specs.declared.judging.FrameMatch.TheVariants.{Match, Differs, Invalid}
use Rattle.bus_frames.specs.declared.sending.Sending.{Sending}
use Rattle.bus_frames.specs.FrameText.{byte_words, channel_letter, found_word, frame_kind}
use Rattle.bus_frames.specs.FrameText.{line_front, match_word, signal_line}
use Rattle.bus_frames.specs.FrameText.{spaced}
use Rattle.frame_laws.specs.Reading.{FrameParts, IsReadBack, IsToldFrame, byte_form}
use Rattle.frame_laws.specs.Reading.{byte_values, bytes_of_parts, frame_form}
use Rattle.frame_laws.specs.Reading.{frame_values, kind_place, kinds, letter_place}
use Rattle.frame_laws.specs.Reading.{letters, match_place, matches, frame_parts}

-- Words.

letter-is : (c : Channel) → channel_letter c ≡ get_or letters (letter_place c) []
letter-is channel.A = refl
letter-is channel.B = refl

match-is : (m : FrameMatch) → match_word m ≡ get_or matches (match_place m) []
match-is Match = refl
match-is Differs = refl
match-is Invalid = refl

kind-by : (a b c : Bool)
    → cond a (codes "N") (cond b (codes "I") (cond c (codes "X") (codes "cold")))
    ≡ get_or kinds (cond a 0 (cond b 1 (cond c 2 3))) []
kind-by true b c = refl
kind-by false true c = refl
kind-by false false true = refl
kind-by false false false = refl

kind-is : (header : ℕ) → frame_kind header ≡ get_or kinds (kind_place header) []
kind-is header = kind-by (header == implicit_header) (header == bare_header) (header == explicit_header)

few-by : (a b c : Bool) → nat_lt (cond a 0 (cond b 1 (cond c 2 3))) 4 ≡ true
few-by true b c = refl
few-by false true c = refl
few-by false false true = refl
few-by false false false = refl

kind-few : (header : ℕ) → nat_lt (kind_place header) 4 ≡ true
kind-few header = few-by (header == implicit_header) (header == bare_header) (header == explicit_header)

letter-few : (c : Channel) → nat_lt (letter_place c) 2 ≡ true
letter-few channel.A = refl
letter-few channel.B = refl

match-few : (m : FrameMatch) → nat_lt (match_place m) 3 ≡ true
match-few Match = refl
match-few Differs = refl
match-few Invalid = refl

-- Bytes.

all-append : (xs ys : List ℕ) → list_all is_byte xs ≡ true → list_all is_byte ys
    ≡ true → list_all is_byte (xs ++ ys) ≡ true
all-append [] ys x y = y
all-append (b ∷ xs) ys x y =
    let t = and_parts (is_byte b) (list_all is_byte xs) x in
    both_true (is_byte b) (list_all is_byte (xs ++ ys)) t.0 (all-append xs ys t.1 y)

all-take : (n : ℕ) (xs : List ℕ) → list_all is_byte xs ≡ true → list_all is_byte (take n xs) ≡ true
all-take zero xs are = refl
all-take (suc n) [] are = refl
all-take (suc n) (b ∷ xs) are =
    let t = and_parts (is_byte b) (list_all is_byte xs) are in
    both_true (is_byte b) (list_all is_byte (take n xs)) t.0 (all-take n xs t.1)

all-drop : (n : ℕ) (xs : List ℕ) → list_all is_byte xs ≡ true → list_all is_byte (drop n xs) ≡ true
all-drop zero xs are = are
all-drop (suc n) [] are = refl
all-drop (suc n) (b ∷ xs) are = all-drop n xs (and_parts (is_byte b) (list_all is_byte xs) are).1

low-byte : (v : ℕ) → is_byte (v % 256) ≡ true
low-byte v = is_lt (v % 256) 256 (omega arith)

bytes-are : (count v : ℕ) → list_all is_byte (big_endian count v) ≡ true
bytes-are zero v = refl
bytes-are (suc count) v =
    all-append (big_endian count (v / 256)) (v % 256 ∷ []) (bytes-are count (v / 256))
    (both_true (is_byte (v % 256)) true (low-byte v) refl)

state-bytes : (width : ℕ) (c : CState) → list_all is_byte (cstate_bytes width c) ≡ true
state-bytes width c =
    let time = big_endian 2 c.time in
    let round = big_endian 1 c.round in
    let slot = big_endian 1 c.slot in
    let members = big_endian width (set_bits c.members) in
    all-append (time ++ round ++ slot) members
    (all-append (time ++ round) slot
    (all-append time round (bytes-are 2 c.time) (bytes-are 1 c.round)) (bytes-are 1 c.slot))
    (bytes-are width (set_bits c.members))

-- Texts.

some-spaced : (bytes : List ℕ) → (length bytes == 0) ≡ false → spaced bytes ≡ codes " " ++ hex_bytes bytes
some-spaced bytes some = ap (λ b. cond b [] (codes " " ++ hex_bytes bytes)) some

none-spaced : (bytes : List ℕ) → (length bytes == 0) ≡ true → spaced bytes ≡ []
none-spaced bytes none = ap (λ b. cond b [] (codes " " ++ hex_bytes bytes)) none

byte-text : (stated loaded : Bool) (parts : FrameParts) → (length parts.header == 0) ≡ false
    → (length parts.state == 0) ≡ not stated → (length parts.load == 0) ≡ not loaded → (length parts.check == 0) ≡ false
    → spaced parts.header ++ spaced parts.state ++ spaced parts.load ++ spaced parts.check ++ newline
    ≡ spelled_before newline (byte_form stated loaded) (byte_values stated loaded parts)
byte-text stated loaded parts header state load check =
    gathered [] (spaced parts.header ∷ spaced parts.state ∷ spaced parts.load ∷ spaced parts.check ∷ newline ∷ [])
    ∙ (λ i. some-spaced parts.header header i ++ (spaced parts.state ++ (spaced parts.load
    ++ (some-spaced parts.check check i ++ newline))))
    ∙ by-parts stated loaded state load
  where
    by-parts : (stated loaded : Bool) → (length parts.state == 0) ≡ not stated → (length parts.load == 0) ≡ not loaded
        → codes " " ++ hex_bytes parts.header ++ (spaced parts.state ++ (spaced parts.load
        ++ (codes " " ++ hex_bytes parts.check ++ newline)))
        ≡ spelled_before newline (byte_form stated loaded) (byte_values stated loaded parts)
    by-parts true true state load =
        (λ i. codes " " ++ hex_bytes parts.header ++ (some-spaced parts.state state i ++ (some-spaced parts.load load i
        ++ (codes " " ++ hex_bytes parts.check ++ newline))))
    by-parts true false state load =
        (λ i. codes " " ++ hex_bytes parts.header ++ (some-spaced parts.state state i ++ (none-spaced parts.load load i
        ++ (codes " " ++ hex_bytes parts.check ++ newline))))
    by-parts false true state load =
        (λ i. codes " " ++ hex_bytes parts.header ++ (none-spaced parts.state state i ++ (some-spaced parts.load load i
        ++ (codes " " ++ hex_bytes parts.check ++ newline))))
    by-parts false false state load =
        (λ i. codes " " ++ hex_bytes parts.header ++ (none-spaced parts.state state i ++ (none-spaced parts.load load i
        ++ (codes " " ++ hex_bytes parts.check ++ newline))))

-- The parts of the bytes.

whole-parts : (n size : ℕ) (bytes : List ℕ)
    → take 1 bytes ++ (take n (drop 1 bytes) ++ (take size (drop (1 + n) bytes) ++ drop (1 + n + size) bytes)) ≡ bytes
whole-parts n size bytes =
    let rest = drop 1 bytes in
    let behind_state : drop (1 + n) bytes ≡ drop n rest = sym (drop-drop n 1 bytes) in
    let check : drop (1 + n + size) bytes ≡ drop size (drop n rest) =
    sym (drop-drop size (1 + n) bytes) ∙ ap (drop size) behind_state in
    (λ i. take 1 bytes ++ (take n rest ++ (take size (behind_state i) ++ check i)))
    ∙ ap (λ xs. take 1 bytes ++ (take n rest ++ xs)) (take-append-drop size (drop n rest))
    ∙ ap (λ xs. take 1 bytes ++ xs) (take-append-drop n rest)
    ∙ take-append-drop 1 bytes

positive : (n : ℕ) → 0 < n → (n == 0) ≡ false
positive n some = grind (arith, nat_tests)

both-ways : (b : Bool) → b ≡ not (not b)
both-ways true = refl
both-ways false = refl

carried-few : (stated wide : Bool) → cond stated (4 + member_bytes wide) 0 ≤ 7
carried-few true true = omega arith
carried-few true false = omega arith
carried-few false wide = omega arith

carried-none : (stated : Bool) (width : ℕ) → (cond stated (4 + width) 0 == 0) ≡ not stated
carried-none true width = positive (4 + width) (omega arith)
carried-none false width = refl

-- how long the parts are
record AreParts (width header size : ℕ) (parts : FrameParts) : Type 0 where
  pub header_long : length parts.header ≡ 1
  pub state_long : length parts.state ≡ carried_length width header
  pub load_long : length parts.load ≡ size
  pub check_long : length parts.check ≡ 3
  pub header_bytes : list_all is_byte parts.header ≡ true
  pub state_bytes : list_all is_byte parts.state ≡ true
  pub load_bytes : list_all is_byte parts.load ≡ true
  pub check_bytes : list_all is_byte parts.check ≡ true

taken : (n : ℕ) (xs : List ℕ) → n ≤ length xs → length (take n xs) ≡ n
taken n xs few = length-take n xs ∙ omega (arith, few)

are-parts : (width header size : ℕ) (bytes : List ℕ) → length bytes ≡ 1 + carried_length width header + size + 3
    → list_all is_byte bytes ≡ true → AreParts width header size (frame_parts width header size bytes)
are-parts width header size bytes long are =
    let n = carried_length width header in
    let one = length-drop 1 bytes in
    let behind = length-drop (1 + n) bytes in record {
      header_long = taken 1 bytes (omega (arith, long));
      state_long = taken n (drop 1 bytes) (omega (arith, long, one));
      load_long = taken size (drop (1 + n) bytes) (omega (arith, long, behind));
      check_long = length-drop (1 + n + size) bytes ∙ omega (arith, long);
      header_bytes = all-take 1 bytes are;
      state_bytes = all-take n (drop 1 bytes) (all-drop 1 bytes are);
      load_bytes = all-take size (drop (1 + n) bytes) (all-drop (1 + n) bytes are);
      check_bytes = all-drop (1 + n + size) bytes are;
    }

fits-payload : (most : ℕ) (bytes : List ℕ) → length bytes ≤ most → list_all is_byte bytes ≡ true
    → fits_kind (payload most) bytes ≡ true
fits-payload most bytes few are =
    both_true (nat_le (length bytes) most) (list_all is_byte bytes) (is_le (length bytes) most few) are

module _ (wide : Bool) (header size : ℕ) (parts : FrameParts) (are : AreParts (member_bytes wide) header size parts)
    (few : size ≤ 240) where
  header_fits : fits_kind (payload 1) parts.header ≡ true
  header_fits = let n = are.header_long in fits-payload 1 parts.header (omega (arith, n)) are.header_bytes

  state_fits : fits_kind (payload 7) parts.state ≡ true
  state_fits =
      let n = are.state_long in
      let short = carried-few (is_explicit header) wide in
      fits-payload 7 parts.state (omega (arith, n, short)) are.state_bytes

  load_fits : fits_kind (payload 240) parts.load ≡ true
  load_fits = let n = are.load_long in fits-payload 240 parts.load (omega (arith, n, few)) are.load_bytes

  check_fits : fits_kind (payload 3) parts.check ≡ true
  check_fits = let n = are.check_long in fits-payload 3 parts.check (omega (arith, n)) are.check_bytes

  fits-parts : (stated loaded : Bool) → fit (byte_form stated loaded) (byte_values stated loaded parts) ≡ true
  fits-parts true true = rw (header_fits, state_fits, load_fits, check_fits) refl
  fits-parts true false = rw (header_fits, state_fits, check_fits) refl
  fits-parts false true = rw (header_fits, load_fits, check_fits) refl
  fits-parts false false = rw (header_fits, check_fits) refl

well-form : (stated loaded : Bool) → well (frame_form stated loaded) ≡ true
well-form true true = refl
well-form true false = refl
well-form false true = refl
well-form false false = refl

module _ (list : Medl) (slot : ℕ) (c : Channel) (sending : Sending) (bytes : List ℕ)
    (told : IsToldFrame list slot sending bytes) where
  width : ℕ
  width = member_width list

  parts : FrameParts
  parts = frame_parts (member_width list) sending.header sending.size bytes

  are : AreParts (member_width list) sending.header sending.size
      (frame_parts (member_width list) sending.header sending.size bytes)
  are = are-parts (member_width list) sending.header sending.size bytes told.long told.are

  fits-all : fit (frame_form (is_explicit sending.header) (not (sending.size == 0)))
      (frame_values list slot c sending bytes)
      ≡ true
  fits-all =
      let m = match_of (is_wide list) bytes sending.header sending.size list.schedule sending.state in
      let state = cstate_bytes (member_width list) sending.state in
      let long = length-cstate_bytes (member_width list) sending.state in
      let short = carried-few true (is_wide list) in
      rw (
        is_lt slot 100000 told.slot_few,
        letter-few c,
        is_lt sending.node 256 told.node,
        kind-few sending.header,
        match-few m,
        is_lt (unsigned_abs sending.clock) (10 ^ 18) told.clock,
        fits-payload 7 state (omega (arith, long, short)) (state-bytes (member_width list) sending.state),
        fits-parts (is_wide list) sending.header sending.size
            (frame_parts (member_width list) sending.header sending.size bytes)
            are told.size (is_explicit sending.header)
            (not (sending.size == 0)),
      ) refl

  text-is : (k : ℕ) → signal_line list slot c sending (Bits k bytes)
      ≡ spelled_line (frame_form (is_explicit sending.header) (not (sending.size == 0)))
      (frame_values list slot c sending bytes)
  text-is k =
      let m = match_of (is_wide list) bytes sending.header sending.size list.schedule sending.state in
      let state = hex_bytes (cstate_bytes (member_width list) sending.state) in
      let words = byte_words (member_width list) sending.header sending.size bytes in
      let found = found_word list sending bytes in
      let n = are.state_long in
      let rest = spelled_before newline (byte_form (is_explicit sending.header) (not (sending.size == 0)))
      (byte_values (is_explicit sending.header) (not (sending.size == 0))
      (frame_parts (member_width list) sending.header sending.size bytes)) in
      append_assoc (line_front list slot c sending found) words newline
      ∙ ap (λ more. line_front list slot c sending found ++ more)
      (byte-text (is_explicit sending.header) (not (sending.size == 0))
      (frame_parts (member_width list) sending.header sending.size bytes) (ap (λ n. n == 0) are.header_long)
      (ap (λ n. n == 0) are.state_long ∙ carried-none (is_explicit sending.header) (member_width list))
      (ap (λ n. n == 0) are.load_long ∙ both-ways (sending.size == 0)) (ap (λ n. n == 0) are.check_long))
      ∙ gathered [] (codes "slot " ∷ decimal slot ∷ codes " " ∷ channel_letter c ∷ codes " node " ∷ decimal sending.node
      ∷ codes " " ∷ frame_kind sending.header ∷ codes " " ∷ found ∷ codes " clock " ∷ signed_decimal sending.clock
      ∷ codes " state " ∷ state ∷ rest ∷ [])
      ∙ (λ i. codes "slot " ++ (decimal slot ++ (codes " " ++ (letter-is c i ++ (codes " node " ++ (decimal sending.node
      ++ (codes " " ++ (kind-is sending.header i ++ (codes " " ++ (match-is m i ++ (codes " clock "
      ++ (signed_decimal sending.clock ++ (codes " state " ++ (state ++ append-nil rest i))))))))))))))

  pub read-back : (k : ℕ) → IsReadBack list slot c sending bytes (signal_line list slot c sending (Bits k bytes))
  read-back k = record {
    text = text-is k;
    read = read_again (frame_form (is_explicit sending.header) (not (sending.size == 0)))
        (frame_values list slot c sending bytes)
        (well-form (is_explicit sending.header) (not (sending.size == 0))) fits-all;
    whole = whole-parts (carried_length (member_width list) sending.header) sending.size bytes;
  }
