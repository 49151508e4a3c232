-- The report of a slot may be written, and its text is the slot's of the trace.
use Rattle.cluster_run.proofs.Words.{◌≡◌, ℕ, zero, suc, ◌+◌, List, [], ◌∷◌, All, length, map, refl, sym, ap, ◌∙◌, subst}
use Rattle.cluster_run.proofs.Words.{append_assoc, arith, AllByRecursion, length-map, length-range_with_len}
use Rattle.cluster_run.proofs.Words.{All-from_recursion, All-nil, below, Medl, Entry, Script, Source, History, IsLegal}
use Rattle.cluster_run.proofs.Words.{ReadMessage, read_messages, IsValid, HostWrite, IsSource, IsValidScript, reads_in}
use Rattle.cluster_run.proofs.Words.{words_of_payload, Numbers, SlotNumbers, world, length-world, NodeLine, SlotReport}
use Rattle.cluster_run.proofs.Words.{bytes_in, words_tell, AreBytesBefore, node_shown, report_numbers, writes_shown}
use Rattle.cluster_run.proofs.Words.{read_shown, ring_words, IsNext, steps, range_with_len, map_each-below}
use Rattle.cluster_run.proofs.Words.{node_line_of, more_write_lines, read_line, slot_lines, HasRead, messages_read}
use Rattle.cluster_run.proofs.Words.{HasWords, message_in, ShowsSlot, ClusterView, plan_few}
use Rattle.trace_text.specs.ReportText.{HasMessage, IsListed, node_texts, source_payload_size, read_text, report_lines}
use Rattle.trace_text.specs.ReportText.{write_text}
use Rattle.ttp_world.proofs.HostPayloads.{IsMessageOf}
use Rattle.line_text.specs.LineParts.{HasDigits}
use Rattle.cluster_run.proofs.FromBelow.{state_of-digits}
use Rattle.cluster_run.specs.NextSlots.{next_row}
use Rattle.cluster_run.specs.Texts.{TellsNext}
use Rattle.ttp_world.specs.declared.script.Source.TheVariants as source

-- The lines.

nodes_told : (list : Medl) (script : Script) (row : List Entry) (before : History) (first many : ℕ)
    → node_texts list (length before) first (map (node_shown list script row before) (range_with_len first many))
    ≡ map (node_line_of list script row before) (range_with_len first many)
nodes_told list script row before first zero = refl
nodes_told list script row before first (suc many) =
    ap (λ ls. node_line_of list script row before first ∷ ls) (nodes_told list script row before (first + 1) many)

writes_told : (list : Medl) (script : Script) (slot : ℕ) (earlier ws : List HostWrite)
    → map (write_text slot) (writes_shown list script slot earlier ws) ≡ more_write_lines list script slot earlier ws
writes_told list script slot earlier [] = refl
writes_told list script slot earlier (w ∷ ws) = grind (steps, writes_told list script slot (w ∷ earlier) ws)

-- the words of a message tell it
message_again : (list : Medl) (from : Source) (message : List ℕ) → IsMessageOf list from message
    → message_in from (source_payload_size list from) (ring_words from message) ≡ message
message_again list source.Status message is = refl
message_again list (source.Node p) message is =
    (λ i. bytes_in (sym is.1 i) (words_of_payload message)) ∙ words_tell message is.0

reads_told : (list : Medl) (script : Script) (slot : ℕ) (after : History) (rs : List ReadMessage)
    → AllByRecursion (HasRead list script after) rs
    → map (read_text list slot) (map (read_shown list script after) rs) ≡ map (read_line list script slot after) rs
reads_told list script slot after [] are = refl
reads_told list script slot after (r ∷ rs) are =
    grind (steps, reads_told list script slot after rs are.1, message_again)

report_told : (list : Medl) (script : Script) (row : List Entry) (before : History) (new : SlotNumbers)
    (report : SlotReport) → ShowsSlot list script row before new report
    → AllByRecursion (HasRead list script (row ∷ before)) (read_messages (reads_in script (length before)) new.read)
    → report_lines list report ≡ slot_lines list script row before new
report_told list script row before new report shows are =
    grind (steps, append_assoc, nodes_told, reads_told, writes_told)

-- What is asked of a report that is written.

listed : (list : Medl) (host : ℕ) (from : Source) → IsSource list host from → IsListed list from
listed list host source.Status is = tt
listed list host (source.Node p) is = is.0

words_of : (list : Medl) (from : Source) (message : List ℕ) → IsValid list → IsMessageOf list from message
    → HasWords from (source_payload_size list from) (ring_words from message)
words_of list source.Status message valid is = is
words_of list (source.Node p) message valid is = grind (steps, length-map, length-range_with_len, plan_few)

reads_have : (list : Medl) (script : Script) (after : History) (rs : List ReadMessage) → IsValid list
    → AllByRecursion (HasRead list script after) rs → All (HasMessage list) (map (read_shown list script after) rs)
reads_have list script after [] valid are = All-nil (HasMessage list)
reads_have list script after (r ∷ rs) valid are =
    grind (steps, reads_have list script after rs valid are.1, listed, words_of)

nodes_have : (list : Medl) (script : Script) (row : List Entry) (before : History) (n : ℕ) → IsValid list
    → All (λ (line : NodeLine). HasDigits list line.state) (map (node_shown list script row before) (below n))
nodes_have list script row before n valid = All-from_recursion (λ (line : NodeLine). HasDigits list line.state)
    (map (node_shown list script row before) (below n))
    (map_each-below (λ (line : NodeLine). HasDigits list line.state) (node_shown list script row before) n
    (λ k less. state_of-digits list script (row ∷ before) k valid))

pub tells_next : (cluster : ClusterView) (numbers : Numbers) → IsValid cluster.list
    → IsValidScript cluster.list cluster.script → AreBytesBefore cluster.list cluster.script cluster.done
    → IsNext cluster numbers → IsLegal cluster.list cluster.script numbers
    → TellsNext cluster.list cluster.script numbers cluster.report
tells_next cluster numbers valid valid_script bytes next legal =
    let list = cluster.list in
    let script = cluster.script in
    let report = cluster.report in
    let new = report_numbers report in
    let before = world list script numbers in
    let row = next_row list script new numbers in
    let shows = next.shows in
    let reads : AllByRecursion (HasRead list script (row ∷ before))
    (read_messages (reads_in script (length before)) new.read) =
    subst (λ n. AllByRecursion (HasRead list script (row ∷ before)) (read_messages (reads_in script n) new.read))
    (sym (length-world list script numbers))
    (messages_read list script new numbers (next.legal legal)
    (subst (AreBytesBefore list script) next.stands.done bytes) valid_script) in
    let many = ap length shows.nodes ∙ length-map (below (length list.slots)) (node_shown list script row before)
    ∙ length-range_with_len 0 (length list.slots) in
    record {
      nodes = omega (arith, many, valid.count.1);
      digits = rw shows.nodes (nodes_have list script row before (length list.slots) valid);
      reads = rw shows.reads
          (reads_have list script (row ∷ before)
          (read_messages (reads_in script (length before)) new.read) valid reads);
      lines = report_told list script row before new report shows reads;
    }
