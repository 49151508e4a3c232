-- How long the whole trace is: slot by slot, and then the first line and the last ones.
use Rattle.std.proofs.Common.{◌≡◌, ℕ, ◌+◌, ◌*◌, ◌<◌, ◌≤◌, List, [], ◌∷◌, ◌++◌, length}
use Rattle.std.proofs.Common.{IsTrue, ap, sym, subst, ◌∙◌, arith, length-append}
use Rattle.std.specs.Prelude.{map}
use Rattle.std.specs.List.{concat, list_all}
use Rattle.std.proofs.lemmas.List.Folds.{concat-append}
use Rattle.ttp_base.specs.NodeSet.{below}
use Rattle.ttp_base.specs.Text.{Lines}
use Rattle.ttp_world.specs.declared.medl.Medl.{Medl}
use Rattle.ttp_world.specs.declared.script.Script.{Script}
use Rattle.ttp_world.specs.declared.script.TheConstants.{SLOT_LIMIT}
use Rattle.ttp_world.specs.Legal.{IsLegal, is_legal_read, read_messages}
use Rattle.ttp_world.specs.Medl.{IsValid}
use Rattle.ttp_world.specs.Script.{IsValidScript, reads_in, writes_in}
use Rattle.ttp_world.specs.Trace.{history_lines, node_line_of, read_lines}
use Rattle.ttp_world.specs.Trace.{slot_lines, test_lines, trace_head, trace_lines, write_lines}
use Rattle.ttp_world.specs.World.{Numbers, SlotNumbers, world}
use Rattle.ttp_world.proofs.HostPayloads.{reads_of_valid}
use Rattle.ttp_world.proofs.LegalShapes.{legal-older, legal-reads}
use Rattle.ttp_world.proofs.Worlds.{length-world, row_of_world}
use Rattle.theorems.specs.declared.trace_size.limit.TheConstants.{TRACE_LIMIT}
use Rattle.theorems.proofs.HostEvents.{host_events-most, host_events-next, host_events_below}
use Rattle.theorems.proofs.HostLineLength.{reads-short, writes-short}
use Rattle.theorems.proofs.NodeLineLength.{node_lines-short}
use Rattle.theorems.proofs.TestLineLength.{head-short, tests-short}

-- the bytes of lines, and those of two parts
abbrev size : Lines → ℕ
size lines = length (concat lines)

size-append : (xs ys : Lines) → size (xs ++ ys) ≡ size xs + size ys
size-append xs ys = ap length (concat-append xs ys) ∙ length-append (concat xs) (concat ys)

-- The lines of a slot: of its nodes, and one for each event of a host.

slot-short : (list : Medl) (script : Script) (new : SlotNumbers) (numbers : Numbers)
    → IsValid list → IsValidScript list script → length numbers < script.slots → IsLegal list script (new ∷ numbers)
    → size (slot_lines list script (row_of_world list script new numbers) (world list script numbers) new)
    ≤ 3072 + 528 * (length (writes_in script (length numbers)) + length (reads_in script (length numbers)))
slot-short list script new numbers valid script_valid within legal =
    let before = world list script numbers in
    let row = row_of_world list script new numbers in
    let slot = length before in
    let same : slot ≡ length numbers = length-world list script numbers in
    let nodes = map (node_line_of list script row before) (below (length list.slots)) in
    let writes = write_lines list script slot in
    let reads = read_lines list script slot (row ∷ before) new.read in
    let early : slot < SLOT_LIMIT = omega (arith, script_valid.slots) in
    let few_writes : size writes ≤ 528 * length (writes_in script slot) =
    writes-short list script slot [] (writes_in script slot) in
    let few_reads : size reads ≤ 528 * length (reads_in script slot) =
    reads-short list script slot before (row ∷ before) (reads_in script slot) new.read valid early (omega arith)
    (reads_of_valid list script slot script_valid)
    (subst (λ at. IsTrue (list_all (is_legal_read list script before (row ∷ before))
    (read_messages (reads_in script at) new.read))) (sym same) (legal-reads list script new numbers legal)) in
    let few_nodes = node_lines-short list script new numbers valid script_valid within legal in
    let all : size (slot_lines list script row before new)
    ≤ 3072 + 528 * (length (writes_in script slot) + length (reads_in script slot)) =
    omega (arith, size-append (nodes ++ writes) reads, size-append nodes writes, few_nodes) in
    subst (λ at. size (slot_lines list script row before new)
    ≤ 3072 + 528 * (length (writes_in script at) + length (reads_in script at))) same all

-- Those of all slots.

history-short : (list : Medl) (script : Script) (numbers : Numbers)
    → IsValid list → IsValidScript list script → length numbers ≤ script.slots → IsLegal list script numbers
    → size (history_lines list script (world list script numbers) numbers)
    ≤ 3072 * length numbers + 528 * host_events_below script.events (length numbers)
history-short list script [] valid script_valid within legal = omega arith
history-short list script (new ∷ numbers) valid script_valid within legal =
    let before = world list script numbers in
    let row = row_of_world list script new numbers in
    let older = history-short list script numbers valid script_valid (omega arith)
    (legal-older list script new numbers legal) in
    let newest = slot-short list script new numbers valid script_valid (omega arith) legal in
    let both = size-append (history_lines list script before numbers) (slot_lines list script row before new) in
    omega (arith, both, older, newest, host_events-next script.events (length numbers))

-- The whole.

whole : (head : List ℕ) (slots tests : Lines)
    → size (head ∷ (slots ++ tests)) ≡ length head + (size slots + size tests)
whole head slots tests =
    omega (arith, length-append head (concat (slots ++ tests)), size-append slots tests)

pub trace-short : (list : Medl) (script : Script) (numbers : Numbers)
    → IsValid list → IsValidScript list script → length numbers ≡ script.slots → IsLegal list script numbers
    → length (concat (trace_lines list script numbers)) ≤ TRACE_LIMIT
trace-short list script numbers valid script_valid slots legal =
    let history = history_lines list script (world list script numbers) numbers in
    let all = whole (trace_head list script) history (test_lines list script) in
    let long = history-short list script numbers valid script_valid (omega (arith, slots)) legal in
    let events = host_events-most script.events (length numbers) in
    omega (arith, all, long, events, head-short list script, tests-short list script, script_valid)
