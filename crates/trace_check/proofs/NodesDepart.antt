-- Where a text departs from a node's line, it does so for each number that is legal there.
use Rattle.trace_check.proofs.Words.{◌≡◌, ℕ, zero, suc, ◌<◌, ◌^◌, Bool, true, false, List, [], ◌∷◌, ◌++◌, length}
use Rattle.trace_check.proofs.Words.{get_or, Option, Some, None, IsTrue, if◌then◌else◌, ap, sym, ◌∙◌, subst}
use Rattle.trace_check.proofs.Words.{arith, append_assoc, map, nat_le, AllByRecursion, concat, get_or-append}
use Rattle.trace_check.proofs.Words.{get_or-append_seam, and_parts, leb-true, concat-append, get_or-map-range_with_len}
use Rattle.trace_check.proofs.Words.{length-map-range_with_len, none-some, below, Lines, is_line, lines_of, Medl, Entry}
use Rattle.trace_check.proofs.Words.{Script, History, entry_of, is_legal_message, IsValid, message_of, newest_number}
use Rattle.trace_check.proofs.Words.{out_messages, state_of, IsValidScript, history_lines, test_lines, member_digits}
use Rattle.trace_check.proofs.Words.{message_shown, node_line_of, read_lines, write_lines, Numbers, SlotNumbers}
use Rattle.trace_check.proofs.Words.{node_past, world, few_messages, trace_lines-each, row_of_world, numeral_in}
use Rattle.trace_check.proofs.Words.{message_digits, lines_of_slot, number_by_text, number_taken, oldest_number}
use Rattle.trace_check.proofs.Words.{AreLines, lines_of-behind}
use Rattle.std.proofs.lemmas.List.{append-nil}
use Rattle.ttp_world.specs.declared.node.Entry.TheVariants as entry
use Rattle.ttp_world.specs.Trace.{number_or_dash}
use Rattle.ttp_world.proofs.LineWords.{node_line-words}
use Rattle.trace_check.proofs.FromBelow.{numeral-again}
use Rattle.trace_check.specs.Outgoing.{number_by_line}
use Rattle.ttp_world.proofs.LineLists.{each-append as both_parts}

-- The lines of a slot are lines.

right_part : {X : Type 0} (P : X → Type 0) (xs ys : List X) → AllByRecursion P (xs ++ ys) → AllByRecursion P ys
right_part P [] ys all = all
right_part P (x ∷ xs) ys all = right_part P xs ys all.1

left_part : {X : Type 0} (P : X → Type 0) (xs ys : List X) → AllByRecursion P (xs ++ ys) → AllByRecursion P xs
left_part P [] ys all = tt
left_part P (x ∷ xs) ys all = (all.0, left_part P xs ys all.1)

one_of : {X : Type 0} (P : X → Type 0) (xs : List X) (i : ℕ) (d : X) → i < length xs → AllByRecursion P xs
    → P (get_or xs i d)
one_of P [] i d within all = absurd (omega (arith, within))
one_of P (x ∷ xs) zero d within all = all.0
one_of P (x ∷ xs) (suc i) d within all = one_of P xs i d (omega (arith, within)) all.1

pub slot-lines : (list : Medl) (script : Script) (other : SlotNumbers) (numbers : Numbers)
    → AreLines (lines_of_slot list script other numbers)
slot-lines list script other numbers =
    let P = λ (line : List ℕ). is_line line ≡ true in
    let front = history_lines list script (world list script numbers) numbers in
    right_part P front (lines_of_slot list script other numbers)
    (left_part P (front ++ lines_of_slot list script other numbers) (test_lines list script)
    (trace_lines-each list script (other ∷ numbers)).1)

-- The line of a node whose frame carries a message names its number.

shown_sent : (list : Medl) (script : Script) (row : List Entry) (history : History) (k i : ℕ) (e : Entry)
    → message_of e ≡ Some i → message_shown list script row history k e ≡ Some i
shown_sent list script row history k i (entry.Sent message) is = is
shown_sent list script row history k i e is = absurd (none-some i is)

pub line-names : (list : Medl) (script : Script) (row : List Entry) (history : History) (k i : ℕ)
    → message_of (entry_of row k) ≡ Some i → i < 10 ^ 6
    → number_by_line (node_line_of list script row history k) ≡ Some i
line-names list script row history k i is small =
    let past = node_past list script (row ∷ history) k in
    let state = state_of past in
    let message = message_shown list script row history k state.entry in
    let shown : message ≡ Some i = shown_sent list script row history k i state.entry is in
    ap (numeral_in message_digits)
    ((node_line-words (member_digits list) (length history) k state message).number ∙ ap number_or_dash shown)
    ∙ numeral-again 6 i (omega arith) (omega arith) small

pub legal-small : (list : Medl) (script : Script) (slot k i : ℕ) → IsValid list → IsValidScript list script
    → slot < script.slots → IsTrue (is_legal_message list script slot k (Some i)) → i < 10 ^ 6
legal-small list script slot k i valid valid_script within legal =
    let newest = newest_number (out_messages list script k slot) in
    let parts = and_parts (nat_le (oldest_number list script slot k) i) (nat_le i newest) legal in
    omega (
      arith,
      leb-true i newest parts.1,
      few_messages list script k (suc slot) valid valid_script,
      valid_script.slots,
      within,
    )

-- the number that a node's line names is taken where the text has the line
pub taken-named : (list : Medl) (script : Script) (slot k i : ℕ) (text line : List ℕ)
    → get_or (lines_of text) k [] ≡ line → number_by_line line ≡ Some i
    → IsTrue (is_legal_message list script slot k (Some i)) → number_by_text list script slot text k ≡ i
taken-named list script slot k i text line at named legal =
    ap (number_taken list script slot k) (ap number_by_line at ∙ named)
    ∙ ap (λ (b : Bool). if b then i else oldest_number list script slot k) legal

-- the line of a text behind some lines
pub line-behind : (text rest line more : List ℕ) (lines : Lines) → text ≡ concat lines ++ rest → rest ≡ line ++ more
    → AreLines lines → is_line line ≡ true → get_or (lines_of text) (length lines) [] ≡ line
line-behind text rest line more lines begins is are one =
    let whole : text ≡ concat (lines ++ line ∷ []) ++ more =
    begins ∙ ap (λ (bytes : List ℕ). concat lines ++ bytes) is
    ∙ sym (append_assoc (concat lines) line more)
    ∙ ap (λ (bytes : List ℕ). bytes ++ more)
    (sym (concat-append lines (line ∷ []) ∙ ap (λ (bytes : List ℕ). concat lines ++ bytes) (append-nil line))) in
    ap (λ (bytes : List ℕ). get_or (lines_of bytes) (length lines) []) whole
    ∙ ap (λ (ls : Lines). get_or ls (length lines) [])
    (lines_of-behind (lines ++ line ∷ []) more
    (both_parts (λ (l : List ℕ). is_line l ≡ true) lines (line ∷ []) are (one, tt))
    ∙ append_assoc lines (line ∷ []) (lines_of more))
    ∙ get_or-append_seam lines line (lines_of more) []

-- a node's line in a slot, and that it is a line
pub node-at : (list : Medl) (script : Script) (other : SlotNumbers) (numbers : Numbers) (j : ℕ) → j < length list.slots
    → get_or (lines_of_slot list script other numbers) j []
    ≡ node_line_of list script (row_of_world list script other numbers) (world list script numbers) j
node-at list script other numbers j node =
    let history = world list script numbers in
    let row = row_of_world list script other numbers in
    let f = node_line_of list script row history in
    let nodes = map f (below (length list.slots)) in
    let writes = write_lines list script (length history) in
    let reads = read_lines list script (length history) (row ∷ history) other.read in
    let many = length-map-range_with_len f 0 (length list.slots) in
    ap (λ (ls : Lines). get_or ls j []) (append_assoc nodes writes reads)
    ∙ get_or-append nodes (writes ++ reads) [] j (omega (arith, many, node))
    ∙ get_or-map-range_with_len f 0 (length list.slots) j j [] node (omega arith)

pub node-is_line : (list : Medl) (script : Script) (other : SlotNumbers) (numbers : Numbers) (j : ℕ)
    → j < length list.slots
    → is_line (node_line_of list script (row_of_world list script other numbers) (world list script numbers) j) ≡ true
node-is_line list script other numbers j node =
    let history = world list script numbers in
    let row = row_of_world list script other numbers in
    let f = node_line_of list script row history in
    let nodes = map f (below (length list.slots)) in
    let writes = write_lines list script (length history) in
    let reads = read_lines list script (length history) (row ∷ history) other.read in
    let many = length-map-range_with_len f 0 (length list.slots) in
    subst (λ (line : List ℕ). is_line line ≡ true)
    (get_or-map-range_with_len f 0 (length list.slots) j j [] node (omega arith))
    (one_of (λ (l : List ℕ). is_line l ≡ true) nodes j [] (omega (arith, many, node))
    (left_part (λ (l : List ℕ). is_line l ≡ true) nodes writes
    (left_part (λ (l : List ℕ). is_line l ≡ true) (nodes ++ writes) reads (slot-lines list script other numbers))))

-- what two entries of one node tell, by what they carry
pub same_message : (loaded : Bool) (c d : ℕ) (m n : Option ℕ) → m ≡ (if loaded then Some c else None)
    → n ≡ (if loaded then Some d else None) → (n ≡ Some d → c ≡ d) → m ≡ n
same_message true c d m n is is_too same = is ∙ ap Some (same is_too) ∙ sym is_too
same_message false c d m n is is_too same = is ∙ sym is_too
