-- How many lines a trace has: as many for all legal numbers.
use Rattle.trace_check.proofs.Words.{◌≡◌, ℕ, zero, suc, ◌+◌, ◌≤◌, Bool, true, false, List, [], ◌∷◌, ◌++◌, length, refl}
use Rattle.trace_check.proofs.Words.{ap, sym, ◌∙◌, arith, length-append, map, length-map, length-map-range_with_len}
use Rattle.trace_check.proofs.Words.{below, Medl, Entry, Script, History, read_messages, IsLegal, IsLegalRun, HostRead}
use Rattle.trace_check.proofs.Words.{has_arm, HostWrite, writes_in, reads_in, node_line_of, more_write_lines}
use Rattle.trace_check.proofs.Words.{write_lines, read_line, read_lines, slot_lines, history_lines, back_lines_if}
use Rattle.trace_check.proofs.Words.{test_lines, trace_lines, SlotNumbers, Numbers, world, legal-shapes, legal-older}
use Rattle.trace_check.proofs.Words.{row_of_world, length-world}

-- as many as the nodes, and what hosts write and read in the slot
abbrev pub lines_in : Medl → Script → ℕ → ℕ
lines_in list script slot =
    length list.slots + (length (writes_in script slot) + length (reads_in script slot))

length-writes : (list : Medl) (script : Script) (slot : ℕ) (earlier writes : List HostWrite)
    → length (more_write_lines list script slot earlier writes) ≡ length writes
length-writes list script slot earlier [] = refl
length-writes list script slot earlier (w ∷ writes) = ap suc (length-writes list script slot (w ∷ earlier) writes)

pub length-read_messages : (reads : List HostRead) (numbers : List ℕ) → length numbers ≡ length reads
    → length (read_messages reads numbers) ≡ length reads
length-read_messages [] [] same = refl
length-read_messages [] (number ∷ numbers) same = absurd (omega (arith, same))
length-read_messages (read ∷ reads) [] same = absurd (omega (arith, same))
length-read_messages (read ∷ reads) (number ∷ numbers) same =
    ap suc (length-read_messages reads numbers (omega (arith, same)))

pub length-slot_lines : (list : Medl) (script : Script) (row : List Entry) (before : History) (new : SlotNumbers)
    → length new.read ≡ length (reads_in script (length before))
    → length (slot_lines list script row before new) ≡ lines_in list script (length before)
length-slot_lines list script row before new same =
    let slot = length before in
    let nodes = map (node_line_of list script row before) (below (length list.slots)) in
    let writes = write_lines list script slot in
    let reads = read_lines list script slot (row ∷ before) new.read in
    omega (
      arith,
      length-append (nodes ++ writes) reads,
      length-append nodes writes,
      length-map-range_with_len (node_line_of list script row before) 0 (length list.slots),
      length-writes list script slot [] (writes_in script slot),
      length-map (read_messages (reads_in script slot) new.read) (read_line list script slot (row ∷ before)),
      length-read_messages (reads_in script slot) new.read same,
    )

-- of a slot after legal numbers
pub length-legal_slot : (list : Medl) (script : Script) (new : SlotNumbers) (numbers : Numbers)
    → IsLegal list script (new ∷ numbers)
    → length (slot_lines list script (row_of_world list script new numbers) (world list script numbers) new)
    ≡ lines_in list script (length numbers)
length-legal_slot list script new numbers legal =
    let at = length-world list script numbers in
    length-slot_lines list script (row_of_world list script new numbers) (world list script numbers) new
    ((legal-shapes list script (new ∷ numbers) legal).0.reads
    ∙ ap (λ slot. length (reads_in script slot)) (sym at))
    ∙ ap (lines_in list script) at

abbrev pub lines_of_slots : Medl → Script → ℕ → ℕ
lines_of_slots list script zero = 0
lines_of_slots list script (suc slots) = lines_of_slots list script slots + lines_in list script slots

pub length-history_lines : (list : Medl) (script : Script) (numbers : Numbers) → IsLegal list script numbers
    → length (history_lines list script (world list script numbers) numbers)
    ≡ lines_of_slots list script (length numbers)
length-history_lines list script [] legal = refl
length-history_lines list script (new ∷ numbers) legal =
    length-append (history_lines list script (world list script numbers) numbers)
    (slot_lines list script (row_of_world list script new numbers) (world list script numbers) new)
    ∙ (λ i. length-history_lines list script numbers (legal-older list script new numbers legal) i
    + length-legal_slot list script new numbers legal i)

-- of the tests
pub length-test_lines : (list : Medl) (script : Script) → length (test_lines list script) ≤ 2
length-test_lines list script = omega (arith, length-back_lines (has_arm script))
  where
    length-back_lines : (armed : Bool) → length (back_lines_if list script armed) ≤ 1
    length-back_lines true = omega arith
    length-back_lines false = omega arith

-- of the trace of a run
abbrev pub lines_in_all : Medl → Script → ℕ
lines_in_all list script = suc (lines_of_slots list script script.slots + length (test_lines list script))

pub length-trace_lines : (list : Medl) (script : Script) (numbers : Numbers) → IsLegalRun list script numbers
    → length (trace_lines list script numbers) ≡ lines_in_all list script
length-trace_lines list script numbers run =
    omega (
      arith,
      length-append (history_lines list script (world list script numbers) numbers) (test_lines list script),
      length-history_lines list script numbers run.legal,
      ap (lines_of_slots list script) run.count,
    )
