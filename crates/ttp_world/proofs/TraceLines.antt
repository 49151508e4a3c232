-- Each line of a trace is one line: its one line feed is its last byte.
use Rattle.ttp_world.proofs.Words.{◌≡◌, ℕ, ◌+◌, ◌<◌, Bool, true, false, List, [], ◌∷◌, ◌++◌, length, get_or, Option}
use Rattle.ttp_world.proofs.Words.{refl, arith, map, count_by, codes, decimal, ◌==◌, signed_decimal, AllByRecursion}
use Rattle.ttp_world.proofs.Words.{list_any-append, below, set_bits, newline, hex, map_each-below, has, has-decimal}
use Rattle.ttp_world.proofs.Words.{has-hex, Back, Keep, Medl, Entry, NodeState, Script, History, keeps, ReadMessage}
use Rattle.ttp_world.proofs.Words.{read_messages, ring_messages, messages_before, state_of, has_arm, returns, HostWrite}
use Rattle.ttp_world.proofs.Words.{writes_in, reads_in, number_or_dash, entry_word, peer_of, ack_word, member_digits}
use Rattle.ttp_world.proofs.Words.{message_shown, trace_head, node_pieces, node_line_text}
use Rattle.ttp_world.proofs.Words.{node_line, node_line_of, write_line, more_write_lines}
use Rattle.ttp_world.proofs.Words.{write_lines, source_word, message_hex, read_line, read_lines, keep_line, back_line}
use Rattle.ttp_world.proofs.Words.{slot_lines, history_lines, back_lines_if, test_lines, trace_lines, SlotNumbers}
use Rattle.ttp_world.proofs.Words.{Numbers, node_past, world}
use Rattle.ttp_base.specs.Text.{is_line}
use Rattle.ttp_base.proofs.Gathered.{has-gather}
use Rattle.ttp_base.proofs.Lines.{is_line-append}
use Rattle.ttp_base.proofs.Numerals.{has-signed}
use Rattle.ttp_world.specs.declared.keep.Back.TheVariants as back
use Rattle.ttp_world.specs.declared.keep.Keep.TheVariants as keep
use Rattle.ttp_world.proofs.LineLists.{each-append}
use Rattle.ttp_world.proofs.TraceWords.{has-entry_word, has-number_or_dash, has-ack_word, has-source_word}
use Rattle.ttp_world.proofs.TraceWords.{has-message_hex}

abbrev pub IsLine : List ℕ → Type 0
IsLine line = is_line line ≡ true

ends : (x : List ℕ) → has 10 x ≡ false → IsLine (x ++ newline)
ends x none = is_line-append x newline none refl

pub feed_is_low : 10 < 45
feed_is_low = omega arith

-- The first line.

head-by_words : (version nodes rounds slots schedule : List ℕ) → has 10 version ≡ false → has 10 nodes ≡ false
    → has 10 rounds ≡ false → has 10 slots ≡ false → has 10 schedule ≡ false
    → IsLine (codes "ttpbench trace " ++ version ++ codes " nodes " ++ nodes ++ codes " rounds " ++ rounds
    ++ codes " slots " ++ slots ++ codes " schedule " ++ schedule ++ newline)
head-by_words version nodes rounds slots schedule p q r s t =
    ends (codes "ttpbench trace " ++ version ++ codes " nodes " ++ nodes ++ codes " rounds " ++ rounds
    ++ codes " slots " ++ slots ++ codes " schedule " ++ schedule)
    (simp (list_any-append (λ c. c == 10), p, q, r, s, t))

head-IsLine : (list : Medl) (script : Script) → IsLine (trace_head list script)
head-IsLine list script =
    head-by_words (decimal list.version) (decimal (length list.slots)) (decimal list.rounds) (decimal script.slots)
    (hex 6 list.schedule) (has-decimal 10 list.version feed_is_low) (has-decimal 10 (length list.slots) feed_is_low)
    (has-decimal 10 list.rounds feed_is_low) (has-decimal 10 script.slots feed_is_low)
    (has-hex 10 6 list.schedule feed_is_low)

-- Node lines.

node_line-IsLine : (width slot k : ℕ) (state : NodeState) (message : Option ℕ)
    → IsLine (node_line width slot k state message)
node_line-IsLine width slot k state message =
    let peer = number_or_dash (peer_of k state.entry) in
    let members = hex width (set_bits state.members) in
    ends (node_line_text (decimal slot) (decimal k) (entry_word state.entry) peer (number_or_dash message) members
    (decimal state.accepted) (decimal state.rejected) (ack_word state.ack) (signed_decimal state.offset))
    (has-gather 10 [] (node_pieces (decimal slot) (decimal k)
    (entry_word state.entry) peer (number_or_dash message) members
    (decimal state.accepted) (decimal state.rejected) (ack_word state.ack) (signed_decimal state.offset)) refl
    (simp (
      has-decimal 10 slot feed_is_low,
      has-decimal 10 k feed_is_low,
      has-entry_word 10 state.entry feed_is_low,
      has-number_or_dash 10 (peer_of k state.entry) feed_is_low,
      has-number_or_dash 10 message feed_is_low,
      has-hex 10 width (set_bits state.members) feed_is_low,
      has-decimal 10 state.accepted feed_is_low,
      has-decimal 10 state.rejected feed_is_low,
      has-ack_word 10 state.ack feed_is_low,
      has-signed 10 state.offset feed_is_low,
    )))

-- Host lines.

write-by_words : (slot k number : List ℕ) → has 10 slot ≡ false → has 10 k ≡ false → has 10 number ≡ false
    → IsLine (codes "slot " ++ slot ++ codes " host " ++ k ++ codes " write " ++ number ++ newline)
write-by_words slot k number p q r =
    ends (codes "slot " ++ slot ++ codes " host " ++ k ++ codes " write " ++ number)
    (simp (list_any-append (λ c. c == 10), p, q, r))

read-by_words : (slot k from number message : List ℕ) → has 10 slot ≡ false → has 10 k ≡ false → has 10 from ≡ false
    → has 10 number ≡ false → has 10 message ≡ false
    → IsLine (codes "slot " ++ slot ++ codes " host " ++ k ++ codes " read " ++ from ++ codes " " ++ number
    ++ codes " " ++ message ++ newline)
read-by_words slot k from number message p q r s t =
    ends (codes "slot " ++ slot ++ codes " host " ++ k ++ codes " read " ++ from ++ codes " " ++ number
    ++ codes " " ++ message)
    (simp (list_any-append (λ c. c == 10), p, q, r, s, t))

write_line-IsLine : (list : Medl) (script : Script) (slot k earlier : ℕ)
    → IsLine (write_line list script slot k earlier)
write_line-IsLine list script slot k earlier =
    let number = length (messages_before list script k slot) + earlier in
    write-by_words (decimal slot) (decimal k) (decimal number) (has-decimal 10 slot feed_is_low)
    (has-decimal 10 k feed_is_low)
    (has-decimal 10 number feed_is_low)

read_line-IsLine : (list : Medl) (script : Script) (slot : ℕ) (after : History) (r : ReadMessage)
    → IsLine (read_line list script slot after r)
read_line-IsLine list script slot after r =
    let message = get_or (ring_messages list script after r.read.host r.read.source) r.number [] in
    read-by_words (decimal slot) (decimal r.read.host) (source_word r.read.source) (decimal r.number)
    (message_hex r.read.source message) (has-decimal 10 slot feed_is_low) (has-decimal 10 r.read.host feed_is_low)
    (has-source_word 10 r.read.source feed_is_low) (has-decimal 10 r.number feed_is_low)
    (has-message_hex 10 r.read.source message feed_is_low)

more_write_lines-each : (list : Medl) (script : Script) (slot : ℕ) (earlier writes : List HostWrite)
    → AllByRecursion IsLine (more_write_lines list script slot earlier writes)
more_write_lines-each list script slot earlier [] = tt
more_write_lines-each list script slot earlier (w ∷ writes) = (
  write_line-IsLine list script slot w.host (count_by (λ e. e.host == w.host) earlier),
  more_write_lines-each list script slot (w ∷ earlier) writes,
)

read_lines-each : (list : Medl) (script : Script) (slot : ℕ) (after : History) (reads : List ReadMessage)
    → AllByRecursion IsLine (map (read_line list script slot after) reads)
read_lines-each list script slot after [] = tt
read_lines-each list script slot after (r ∷ reads) =
    (read_line-IsLine list script slot after r, read_lines-each list script slot after reads)

-- The lines of the tests.

yes-by_words : (start : List ℕ) → has 10 start ≡ false → IsLine (codes "keeps yes start " ++ start ++ newline)
yes-by_words start p =
    ends (codes "keeps yes start " ++ start)
    (simp (list_any-append (λ c. c == 10), p))

no-by_words : (rule slot : List ℕ) → has 10 rule ≡ false → has 10 slot ≡ false
    → IsLine (codes "keeps no H" ++ rule ++ codes " " ++ slot ++ newline)
no-by_words rule slot p q =
    ends (codes "keeps no H" ++ rule ++ codes " " ++ slot)
    (simp (list_any-append (λ c. c == 10), p, q))

pub keep_line-IsLine : (k : Keep) → IsLine (keep_line k)
keep_line-IsLine (keep.Yes start) = yes-by_words (decimal start) (has-decimal 10 start feed_is_low)
keep_line-IsLine (keep.No rule slot) =
    no-by_words (decimal rule) (decimal slot) (has-decimal 10 rule feed_is_low) (has-decimal 10 slot feed_is_low)

back_yes-by_words : (start : List ℕ) → has 10 start ≡ false → IsLine (codes "returns yes start " ++ start ++ newline)
back_yes-by_words start p =
    ends (codes "returns yes start " ++ start)
    (simp (list_any-append (λ c. c == 10), p))

back_no-by_words : (rule slot : List ℕ) → has 10 rule ≡ false → has 10 slot ≡ false
    → IsLine (codes "returns no Q" ++ rule ++ codes " " ++ slot ++ newline)
back_no-by_words rule slot p q =
    ends (codes "returns no Q" ++ rule ++ codes " " ++ slot)
    (simp (list_any-append (λ c. c == 10), p, q))

pub back_line-IsLine : (b : Back) → IsLine (back_line b)
back_line-IsLine (back.Yes start) = back_yes-by_words (decimal start) (has-decimal 10 start feed_is_low)
back_line-IsLine (back.No rule slot) =
    back_no-by_words (decimal rule) (decimal slot) (has-decimal 10 rule feed_is_low) (has-decimal 10 slot feed_is_low)

back_lines-each : (list : Medl) (script : Script) (has_some : Bool)
    → AllByRecursion IsLine (back_lines_if list script has_some)
back_lines-each list script true = (back_line-IsLine (returns list script), tt)
back_lines-each list script false = tt

pub test_lines-each : (list : Medl) (script : Script) → AllByRecursion IsLine (test_lines list script)
test_lines-each list script = (keep_line-IsLine (keeps list script), back_lines-each list script (has_arm script))

-- The whole.

slot_lines-each : (list : Medl) (script : Script) (row : List Entry) (before : History) (new : SlotNumbers)
    → AllByRecursion IsLine (slot_lines list script row before new)
slot_lines-each list script row before new =
    let slot = length before in
    each-append IsLine
    (map (node_line_of list script row before) (below (length list.slots)) ++ write_lines list script slot)
    (read_lines list script slot (row ∷ before) new.read)
    (each-append IsLine (map (node_line_of list script row before) (below (length list.slots)))
    (write_lines list script slot)
    (map_each-below IsLine (node_line_of list script row before) (length list.slots) (λ k less.
    let state = state_of (node_past list script (row ∷ before) k) in
    node_line-IsLine (member_digits list) slot k state (message_shown list script row before k state.entry)))
    (more_write_lines-each list script slot [] (writes_in script slot)))
    (read_lines-each list script slot (row ∷ before) (read_messages (reads_in script slot) new.read))

history_lines-each : (list : Medl) (script : Script) (history : History) (numbers : Numbers)
    → AllByRecursion IsLine (history_lines list script history numbers)
history_lines-each list script [] numbers = tt
history_lines-each list script (row ∷ history) [] = tt
history_lines-each list script (row ∷ history) (new ∷ numbers) =
    each-append IsLine (history_lines list script history numbers) (slot_lines list script row history new)
    (history_lines-each list script history numbers) (slot_lines-each list script row history new)

pub trace_lines-each : (list : Medl) (script : Script) (numbers : Numbers)
    → AllByRecursion (λ line. is_line line ≡ true) (trace_lines list script numbers)
trace_lines-each list script numbers = (
  head-IsLine list script,
  each-append IsLine (history_lines list script (world list script numbers) numbers)
      (test_lines list script) (history_lines-each list script (world list script numbers) numbers)
      (test_lines-each list script),
)
