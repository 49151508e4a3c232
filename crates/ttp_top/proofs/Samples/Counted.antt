-- What a slot adds to what a run has counted.
use Rattle.ttp_top.proofs.Terms.{◌≡◌, ℕ, suc, ◌*◌, ◌<◌, ◌≤◌, List, [], ◌∷◌, length, cond, Bool, true, false, refl}
use Rattle.ttp_top.proofs.Terms.{ap, sym, ◌∙◌, subst, arith, map, AllByRecursion, length-map}
use Rattle.ttp_top.proofs.Terms.{length-range_with_len, below, set_bits, Medl, Entry, NodeState, Script}
use Rattle.ttp_top.proofs.Terms.{History, is_active_phase, IsLegal, state_of, write_in, read_in, writes_in, reads_in}
use Rattle.ttp_top.proofs.Terms.{SlotNumbers, Numbers, node_past, world, legal-none, legal-shapes, length-world}
use Rattle.ttp_top.proofs.Terms.{next_row, ClusterView, ClusterStandsFor, Totals, states_in, HasCounted, states_after}
use Rattle.ttp_top.proofs.Terms.{lowest_members, totals_of, HasDoneSlot, filter_map-few}
use Rattle.std.proofs.Common.{◌^◌}
use Rattle.std.proofs.lemmas.List.Elements.{recursion_from_All}
use Rattle.ttp_world.specs.Legal.{read_messages}
use Rattle.ttp_world.specs.Medl.{is_wide, member_bytes, member_limit}
use Rattle.ttp_world.specs.Script.{HostWrite}
use Rattle.ttp_world.proofs.Lists.{nodes-most}
use Rattle.host_port.specs.declared.report.NodeLine.{NodeLine}
use Rattle.host_port.specs.declared.report.SlotReport.{SlotReport}
use Rattle.line_text.specs.LineParts.{HasDigits}
use Rattle.cluster_run.specs.Report.{report_numbers, node_shown, writes_shown, read_shown, ShowsSlot}
use Rattle.ttp_top.specs.Samples.Counted.{with_report, SumsFit}
use Rattle.ttp_top.specs.Samples.Totals.{no_totals, totals_with_slot}
use Rattle.ttp_top.proofs.Samples.Bounds.{AreSmall, totals-small}
use Rattle.ttp_top.proofs.Scripts.Slots.{after, tells}
use Rattle.ttp_top.proofs.FromBelow.{length-read_messages}

-- What a report shows is what the slot adds.

states-shown : (list : Medl) (script : Script) (row : List Entry) (before : History) (ks : List ℕ)
    → states_in (map (node_shown list script row before) ks)
    ≡ map (λ k. state_of (node_past list script (row ∷ before) k)) ks
states-shown list script row before [] = refl
states-shown list script row before (k ∷ ks) =
    ap (λ (states : List NodeState). state_of (node_past list script (row ∷ before) k) ∷ states)
    (states-shown list script row before ks)

length-writes_shown : (list : Medl) (script : Script) (slot : ℕ) (earlier writes : List HostWrite)
    → length (writes_shown list script slot earlier writes) ≡ length writes
length-writes_shown list script slot earlier [] = refl
length-writes_shown list script slot earlier (w ∷ ws) =
    ap suc (length-writes_shown list script slot (w ∷ earlier) ws)

report-adds : (list : Medl) (script : Script) (row : List Entry) (before : History) (new : SlotNumbers)
    (report : SlotReport) (totals : Totals) → ShowsSlot list script row before new report
    → length new.read ≡ length (reads_in script (length before))
    → with_report totals report
    ≡ totals_with_slot totals (states_after list script (row ∷ before)) (length (writes_in script (length before)))
    (length (reads_in script (length before)))
report-adds list script row before new report totals shows same =
    let slot = length before in
    let nodes : states_in report.nodes ≡ states_after list script (row ∷ before) =
    ap states_in shows.nodes ∙ states-shown list script row before (below (length list.slots)) in
    let writes : length report.writes ≡ length (writes_in script slot) =
    ap length shows.writes ∙ length-writes_shown list script slot [] (writes_in script slot) in
    let reads : length report.reads ≡ length (reads_in script slot) =
    ap length shows.reads
    ∙ length-map (read_messages (reads_in script slot) new.read) (read_shown list script (row ∷ before))
    ∙ length-read_messages (reads_in script slot) new.read same in
    λ i. totals_with_slot totals (nodes i) (writes i) (reads i)

-- The members can be written.

some_limit : (wide : Bool) → 0 < 2 ^ (8 * member_bytes wide)
some_limit true = omega arith
some_limit false = omega arith

some_members : (list : Medl) → 0 < member_limit list
some_members list = some_limit (is_wide list)

lowest-few : (list : Medl) (nodes : List NodeLine)
    → AllByRecursion (λ (line : NodeLine). HasDigits list line.state) nodes
    → set_bits (lowest_members (states_in nodes)) < member_limit list
lowest-few list [] all = some_members list
lowest-few list (line ∷ nodes) all =
    first_or (is_active_phase line.state.phase) line.state.members (lowest_members (states_in nodes)) all.0
    (lowest-few list nodes all.1)
  where
    first_or : (b : Bool) (x y : List ℕ) → set_bits x < member_limit list → set_bits y < member_limit list
        → set_bits (cond b x y) < member_limit list
    first_or true x y p q = p
    first_or false x y p q = q

-- A run that has not begun.

pub none_counted : (c : ClusterView) → ClusterStandsFor c [] → HasCounted c no_totals
none_counted c stands = record {
  numbers = [];
  stands = stands;
  legal = legal-none c.list c.script;
  totals_are = refl;
  members = some_members c.list;
}

-- The numbers of a report are legal, and there is one for each read of its slot.

reads-told : (list : Medl) (script : Script) (new : SlotNumbers) (numbers : Numbers)
    → IsLegal list script (new ∷ numbers)
    → length new.read ≡ length (reads_in script (length (world list script numbers)))
reads-told list script new numbers legal =
    (legal-shapes list script (new ∷ numbers) legal).0.reads
    ∙ ap (λ slot. length (reads_in script slot)) (sym (length-world list script numbers))

-- One slot more.

pub slot_counted : (old new : ClusterView) → HasDoneSlot old new → (totals : Totals) → HasCounted old totals
    → HasCounted new (with_report totals new.report)
slot_counted old new s totals counted =
    let numbers = counted.numbers in
    let told = tells old new s numbers counted.stands counted.legal in
    let next = s.steps numbers counted.stands in
    let more = report_numbers new.report ∷ numbers in
    let legal = next.legal (after (λ list script. IsLegal list script numbers) s counted.legal) in
    let before : totals ≡ totals_of new.list new.script (world new.list new.script numbers) =
    after (λ list script. totals ≡ totals_of list script (world list script numbers)) s counted.totals_are in
    record {
      numbers = more;
      stands = next.stands;
      legal = legal;
      totals_are =
          report-adds new.list new.script (next_row new.list new.script (report_numbers new.report) numbers)
          (world new.list new.script numbers) (report_numbers new.report) new.report totals next.shows
          (reads-told new.list new.script (report_numbers new.report) numbers legal)
          ∙ ap (λ (t : Totals).
          totals_with_slot t (states_after new.list new.script (world new.list new.script more))
          (length (writes_in new.script (length (world new.list new.script numbers))))
          (length (reads_in new.script (length (world new.list new.script numbers))))) before;
      members =
          lowest-few new.list new.report.nodes
          (recursion_from_All (λ (line : NodeLine). HasDigits new.list line.state) new.report.nodes told.digits);
    }

-- Its sums fit.

pub slot_fits : (old new : ClusterView) → HasDoneSlot old new → (totals : Totals) → HasCounted old totals
    → SumsFit totals new.report
slot_fits old new s totals counted =
    let numbers = counted.numbers in
    let next = s.steps numbers counted.stands in
    let history = world old.list old.script numbers in
    let small = subst (λ (t : Totals). AreSmall t (length history)) (sym counted.totals_are)
    (totals-small old.list old.script history (nodes-most old.list s.valid) s.valid_script.event_count) in
    let slots : length history ≤ 20000 =
    omega (arith, length-world old.list old.script numbers, counted.stands.done, s.within, s.valid_script.slots.1) in
    let nodes : length new.report.nodes ≤ 24 =
    omega (
      arith,
      ap length next.shows.nodes,
      length-map (below (length new.list.slots)) (node_shown new.list new.script
          (next_row new.list new.script (report_numbers new.report) numbers) (world new.list new.script numbers)),
      length-range_with_len 0 (length new.list.slots),
      ap (λ (list : Medl). length list.slots) s.list,
      nodes-most old.list s.valid,
    ) in
    let slot = length (world new.list new.script numbers) in
    let events : length new.script.events ≤ 131072 =
    omega (arith, ap (λ (script : Script). length script.events) s.script, s.valid_script.event_count) in
    let legal = next.legal (after (λ list script. IsLegal list script numbers) s counted.legal) in
    let writes : length new.report.writes ≤ 131072 =
    omega (
      arith,
      ap length next.shows.writes,
      length-writes_shown new.list new.script slot [] (writes_in new.script slot),
      filter_map-few (write_in slot) new.script.events,
      events,
    ) in
    let reads : length new.report.reads ≤ 131072 =
    omega (
      arith,
      ap length next.shows.reads,
      length-map (read_messages (reads_in new.script slot) (report_numbers new.report).read)
          (read_shown new.list new.script (world new.list new.script (report_numbers new.report ∷ numbers))),
      length-read_messages (reads_in new.script slot) (report_numbers new.report).read
          (reads-told new.list new.script (report_numbers new.report) numbers legal),
      filter_map-few (read_in slot) new.script.events,
      events,
    ) in
    record {
      sent = omega (arith, small.sent, slots, nodes);
      left = omega (arith, small.left, slots, nodes);
      writes = omega (arith, small.writes, slots, writes);
      reads = omega (arith, small.reads, slots, reads);
    }
