-- A slot takes a cluster to the world of one slot more: its numbers are those in its report, which shows that slot.
-- Each of its reads gets a message, the numbers of these are legal, and the rings keep what was got of them.
use Rattle.cluster_run.proofs.Words.{◌≡◌, ℕ, ◌+◌, ◌<◌, ◌≤◌, Bool, true, false, cond, ◌&&◌, List, [], ◌∷◌, ◌++◌, length}
use Rattle.cluster_run.proofs.Words.{map, get_or, Option, Some, None, option_map, inl, inr, refl, sym, ap, ◌∙◌, subst}
use Rattle.cluster_run.proofs.Words.{arith, ◌==◌, reverse, AllByRecursion, list_all, ForSome, cases_lt, eq-eqb}
use Rattle.cluster_run.proofs.Words.{length-map, get_or_past, Message, WriterState, new_reader, HostRead, Shape, Medl}
use Rattle.cluster_run.proofs.Words.{Entry, Script, Source, History, read_messages, is_legal_read, are_legal_reads}
use Rattle.cluster_run.proofs.Words.{never_fall, ring_messages, reads_in, Numbers, row_in, world, length-world, Outcome}
use Rattle.cluster_run.proofs.Words.{outcomes_of, ReadLine, WriteLine, ReadersState, reads_from, at_source}
use Rattle.cluster_run.proofs.Words.{incoming_shape, CurrentSlot, Desk, Nodes, next_slot, outcome_of, desk_ends}
use Rattle.cluster_run.proofs.Words.{desk_numbers, end_at, reader_in, reader_at, IsClear, AreLinesOf, read_of}
use Rattle.cluster_run.proofs.Words.{number_told, read_shown, ring_words, words_read, pair_of, pairs_read}
use Rattle.cluster_run.proofs.Words.{pairs_read_in, IsRingOf, IsSlotEnded, NodesStandAt, TellsReads, nodes_view, steps}
use Rattle.cluster_run.proofs.Words.{HaveEnded, HavePlannedSlot, IsSlotPlanned, below, IsLegal, is_legal_message}
use Rattle.cluster_run.proofs.Words.{SlotNumbers, legal-after, most_ahead, NodeLine, SlotReport, HaveEndedSlot}
use Rattle.cluster_run.proofs.Words.{node_shown, report_numbers, IsNextOf, NodesStandFor, fill_by_all, all-below}
use Rattle.cluster_run.proofs.Words.{entry_of, are_legal_messages, are_same_numbers, is_legal_slot, message_of}
use Rattle.cluster_run.proofs.Words.{length-row_in, row_of_world, row_of_world-told, number_in_frame, newest_number}
use Rattle.cluster_run.proofs.Words.{get_or-map, cluster_at, IsNext, ClusterStandsFor, cluster_of, AreBytesBefore}
use Rattle.cluster_run.proofs.Words.{IsOnCourse, ClusterSteps}
use Rattle.ttp_world.proofs.Carried.{AreOfHosts, delivered_of-row_in, message_of-row_in}
use Rattle.nbw_ring.specs.Numbers.{newest_number as newest_in, IsMessageOf}
use Rattle.controller.specs.Passes.{IsOutcomeOf}
use Rattle.cluster_run.proofs.FromBelow.{left_at}
use Rattle.ttp_world.proofs.LegalRuns.{are_same_numbers-refl as same_numbers}
use Rattle.ttp_world.proofs.LineLists.{map_of_map}
use Rattle.cluster_run.specs.declared.progress.Progress.{Progress}
use Rattle.cluster_run.specs.declared.progress.Course.{Course}
use Rattle.cluster_run.specs.Runs.{IsToldOf}
use Rattle.cluster_run.proofs.Choices.{found}
use Rattle.cluster_run.proofs.HandingOn.{delivered-deliverable, IsHandedOf, handed_ring, HoldsCame, number_is_told}
use Rattle.cluster_run.proofs.Lines.{message_told, messages_told, pairs_of, each_line, never_fall-lines, TellsRing}
use Rattle.cluster_run.proofs.Lines.{reads_shown, pairs_told, IsLegalLine, legal_lines}
use Rattle.cluster_run.proofs.RingReads.{IsLentBy, AreGotOf, RingSlot, nothing_got, clear_of, IsRingRead, ring_read}
use Rattle.ttp_world.specs.declared.script.Source.TheVariants as source
use Rattle.ttp_world.specs.declared.node.Entry.TheVariants as entry

-- Messages of rings: there is one at first, and a slot brings one more at most.

ring_messages-some : (list : Medl) (script : Script) (history : History) (k : ℕ) (from : Source)
    → 1 ≤ length (ring_messages list script history k from)
ring_messages-some list script [] k source.Status = omega arith
ring_messages-some list script [] k (source.Node p) = omega arith
ring_messages-some list script (row ∷ history) k source.Status = grind steps
ring_messages-some list script (row ∷ history) k (source.Node p) =
    grind (steps, ring_messages-some list script history k (source.Node p))

ring_messages-few : (list : Medl) (script : Script) (row : List Entry) (history : History) (k : ℕ) (from : Source)
    → length (ring_messages list script (row ∷ history) k from) ≤ length (ring_messages list script history k from) + 1
ring_messages-few list script row history k source.Status = grind steps
ring_messages-few list script row history k (source.Node p) = grind steps

length-words : (list : Medl) (script : Script) (history : History) (k : ℕ) (from : Source)
    → length (words_read list script history k from) ≡ length (ring_messages list script history k from)
length-words list script history k from = length-map (ring_messages list script history k from) (ring_words from)

-- Each reader is a new one of its ring's writer.

lent_if : (w : Option WriterState) (n : ℕ) (unread : Bool)
    → IsLentBy w (cond unread None (option_map (λ v. new_reader v n) w))
lent_if None n true = tt
lent_if None n false = tt
lent_if (Some w) n true = tt
lent_if (Some w) n false = (n, refl)

-- A node that there isn't has no reader.
no_reader : (readers : List (Option ReadersState)) (k n : ℕ) (from : Source) → length readers ≡ n → n ≤ k
    → reader_at readers k from ≡ None
no_reader readers k n from count past =
    ap (λ (o : Option ReadersState). reader_in o from) (get_or_past readers k None (omega arith))

-- A ring has as many buffers as the list gives, one at least.
buffers_some : (list : Medl) (k : ℕ) (from : Source) → 1 ≤ list.buffers
    → ForSome (incoming_shape list k from) (λ (s : Shape). 1 ≤ s.buffers)
buffers_some list k source.Status some = grind steps
buffers_some list k (source.Node p) some = grind steps

-- A line tells a message of its ring.

is_pair : (from : Source) (messages : List (List ℕ)) (m : Message) → IsMessageOf (map (ring_words from) messages) m
    → m ≡ pair_of from messages m.number
is_pair from messages m is =
    λ i. record { number = m.number; words = sym (found (ring_words from) messages [] m.number m.words is).is i }

is_near : (from : Source) (messages : List (List ℕ)) (m : Message) → IsMessageOf (map (ring_words from) messages) m
    → m.number ≤ newest_number messages
is_near from messages m is = omega (arith, (found (ring_words from) messages [] m.number m.words is).within)

each_told : (list : Medl) (script : Script) (after : History) (lines : List ReadLine)
    → AllByRecursion (λ (line : ReadLine). IsMessageOf (words_read list script after line.host line.source) line.pair)
    lines → AllByRecursion (TellsRing list script after) lines
each_told list script after [] all = tt
each_told list script after (line ∷ lines) all = (
  is_pair line.source (ring_messages list script after line.host line.source) line.pair all.0,
  each_told list script after lines all.1,
)

each_legal : (list : Medl) (script : Script) (before after : History) (lines : List ReadLine)
    → AllByRecursion (λ (line : ReadLine). newest_in (words_read list script before line.host line.source)
    ≤ line.pair.number) lines
    → AllByRecursion (λ (line : ReadLine). IsMessageOf (words_read list script after line.host line.source) line.pair)
    lines → AllByRecursion (IsLegalLine list script before after) lines
each_legal list script before after [] least are = tt
each_legal list script before after (line ∷ lines) least are =
    grind (steps, each_legal list script before after lines least.1 are.1, is_near, length-words)

-- The numbers that a slot's node lines tell are those of its row.

row_told : (row : List Entry) → map (λ k. message_of (entry_of row k)) (below (length row)) ≡ map message_of row
row_told row =
    sym (fill_by_all (λ k. message_of (entry_of row k)) (map message_of row) (length row) None
    (length-map row message_of) (λ k less. get_or-map message_of row k entry.Off))

sent_told : (list : Medl) (script : Script) (row : List Entry) (before : History) (n : ℕ) (lines : List NodeLine)
    → length row ≡ n → lines ≡ map (node_shown list script row before) (below n)
    → map (λ line. message_of line.state.entry) lines ≡ map message_of row
sent_told list script row before n lines count are = grind (steps, map_of_map, row_told)

-- A slot that was taken, by the numbers that its nodes stood for.

pub record TakenSlot : Type 0 where
  pub at : CurrentSlot
  pub numbers : Numbers
  pub old : Nodes
  pub mid : Nodes
  pub new : Nodes
  pub writes : List WriteLine
  pub reads : List ReadLine
  pub stands : NodesStandAt at.list.now at.script.now at.slot (nodes_view old) numbers
  pub plans : IsSlotPlanned at old mid writes
  pub ends : IsSlotEnded at mid new
  pub tells : TellsReads at mid new reads

-- the numbers of what was read
abbrev pub numbers_told : List ReadLine → List ℕ
numbers_told lines = map (λ line. line.pair.number) lines

length-told : (lines : List ReadLine) → length (map read_of lines) ≡ length (numbers_told lines)
length-told lines = length-map lines read_of ∙ sym (length-map lines (λ (line : ReadLine). line.pair.number))

module _ (so : TakenSlot) where
  abbrev pub list : Medl
  list = so.at.list.now

  abbrev pub script : Script
  script = so.at.script.now

  abbrev pub before : History
  before = world list script so.numbers

  abbrev pub row : List Entry
  row = row_in (next_slot list script so.numbers) so.mid.chosen.items

  abbrev reads : List HostRead
  reads = reads_in script so.at.slot

  abbrev words : History → ℕ → Source → List (List ℕ)
  words history k from = words_read list script history k from

  planned : HavePlannedSlot so.at so.numbers so.mid
  planned = so.plans.plans so.numbers so.stands

  ended : HaveEnded list script before so.mid.chosen.items 0 so.new.seats.items
  ended = so.ends.ends so.numbers planned

  slots : length before ≡ so.at.slot
  slots = length-world list script so.numbers ∙ so.stands.count

  ends_count : length (desk_ends so.mid.desks.items) ≡ length list.slots
  ends_count = length-map so.mid.desks.items (λ (d : Desk). d.end) ∙ so.plans.are.desks

  first_count : length so.tells.first ≡ length list.slots
  first_count = so.tells.lent.count ∙ ends_count

  last_count : length so.tells.last ≡ length list.slots
  last_count = so.tells.read.count ∙ first_count

  -- What was handed on.

  of_hosts : AreOfHosts (next_slot list script so.numbers) so.mid.chosen.items
  of_hosts = record {
    message = λ k node loaded. rw (← length-world list script so.numbers) at (planned.chosen.messages k node loaded);
  }

  abbrev outcome : ℕ → Outcome
  outcome = outcome_of (outcomes_of so.new.seats.items)

  left_here : (k : ℕ) → k < length list.slots → IsOutcomeOf list script before so.mid.chosen.items k (outcome k)
  left_here k node = left_at ended.left k (omega (arith, node, so.ends.are.seats_count))

  handed_of : (k : ℕ) → k < length list.slots → IsHandedOf list script row before k (outcome k)
  handed_of k node =
      let same = delivered_of-row_in list script before so.mid.chosen.items k of_hosts in
      record { delivered = rw same (left_here k node).delivered; status = rw same (left_here k node).status }

  came : (k : ℕ) → k < length list.slots
      → HoldsCame list script before k (pairs_read list script so.numbers k) (end_at (desk_ends so.mid.desks.items) k)
  came k node = record { each = λ from. rw (← so.plans.desks) at (so.stands.stands.read k node from) }

  -- The numbers that nodes tell of what they delivered are those of the world's slot.
  numbers_delivered : (k : ℕ) → k < length list.slots
      → get_or (desk_numbers so.new.desks.items) k None ≡ number_told list script row before k
  numbers_delivered k node = so.tells.handed_are.numbers_are k (omega (arith, node, ends_count))
      ∙ number_is_told (came k node) row (outcome k).delivered
      (rw (left_here k node).delivered (delivered-deliverable list script before so.mid.chosen.items k node))
      (handed_of k node).delivered

  -- What was read.

  ring : (k : ℕ) → k < length list.slots → (from : Source)
      → RingSlot (words before k from) (words (row ∷ before) k from)
      (pairs_read list script so.numbers k from) (incoming_shape list k from)
      (at_source (end_at (desk_ends so.mid.desks.items) k) from) (at_source (end_at so.tells.handed k) from)
      (reader_at so.tells.first k from) (reader_at so.tells.last k from)
  ring k near from =
      let few = ring_messages-few list script row before k from in
      let count = length-words list script before k from in
      let is = (came k near).each from in
      let end : k < length (desk_ends so.mid.desks.items) = omega (arith, near, ends_count) in
      record {
        some = buffers_some list k from so.at.valid.buffers.0;
        there = omega (arith, count, ring_messages-some list script before k from);
        few = omega (arith, count, length-words list script (row ∷ before) k from, few);
        is = is;
        be = rw (so.tells.handed_are.ends k end) (handed_ring from _ _ (handed_of k near) is);
        lent_by = rw ((so.tells.lent.each k end).readers from) (lent_if _ _ (reads_from reads k from == 0));
        settles = (so.tells.settles.each k (omega (arith, near, last_count))).whole from;
      }

  clear : (k : ℕ) (from : Source)
      → IsClear (reader_at so.tells.first k from) (reader_at so.tells.last k from)
  clear k from =
      elim (cases_lt k (length list.slots)) [
        | inl near ↦ clear_of _ _ _ _ _ (ring k near from)
        | inr past ↦ rw (no_reader so.tells.first k (length list.slots) from first_count past) tt
      ]

  -- each read got a message
  are_lines : AreLinesOf reads so.tells.last so.reads
  are_lines = so.tells.told (λ k. so.tells.read.calls k (clear k))

  ring_is : (k : ℕ) → k < length list.slots → (from : Source) → IsRingRead (words before k from)
      (words (row ∷ before) k from) (pairs_read list script so.numbers k from) (incoming_shape list k from)
      (at_source (end_at so.tells.handed k) from) (reader_at so.tells.last k from)
  ring_is k near from = ring_read _ _ _ _ _ (reads_from reads k from) (ring k near from)
      (so.tells.read.each k from) (clear k from)

  got_of_ring : (k : ℕ) (from : Source)
      → AreGotOf (words before k from) (words (row ∷ before) k from) (pairs_of k from so.reads)
  got_of_ring k from =
      subst (AreGotOf (words before k from) (words (row ∷ before) k from)) (sym (are_lines.pairs k from))
      (elim (cases_lt k (length list.slots)) [
        | inl near ↦ (ring_is k near from).got
        | inr past ↦
            rw (no_reader so.tells.last k (length list.slots) from last_count past)
            (nothing_got (words before k from) (words (row ∷ before) k from))
      ])

  are_messages : AllByRecursion
      (λ (line : ReadLine). IsMessageOf (words (row ∷ before) line.host line.source) line.pair) so.reads
  are_messages =
      each_line (λ k from m. IsMessageOf (words (row ∷ before) k from) m) so.reads (λ k from. (got_of_ring k from).are)

  rings_told : AllByRecursion (TellsRing list script (row ∷ before)) so.reads
  rings_told = each_told list script (row ∷ before) so.reads are_messages

  messages : read_messages reads (numbers_told so.reads) ≡ map message_told so.reads
  messages = ap (λ rs. read_messages rs (numbers_told so.reads)) (sym are_lines.reads_are) ∙ messages_told so.reads

  reads_shown_are : so.reads
      ≡ map (read_shown list script (row ∷ before)) (read_messages reads (numbers_told so.reads))
  reads_shown_are =
      reads_shown list script (row ∷ before) so.reads rings_told
      ∙ ap (map (read_shown list script (row ∷ before))) (sym messages)

  reads_legal : are_legal_reads list script before (row ∷ before) reads (numbers_told so.reads) ≡ true
  reads_legal =
      let least = each_line (λ k from (m : Message). newest_in (words before k from) ≤ m.number) so.reads
      (λ k from. (got_of_ring k from).least) in
      let count : (length reads == length (numbers_told so.reads)) ≡ true =
      eq-eqb (length reads) (length (numbers_told so.reads))
      (ap length (sym are_lines.reads_are) ∙ length-told so.reads) in
      λ i. count i
      && (ap (list_all (is_legal_read list script before (row ∷ before))) messages
      ∙ legal_lines list script before (row ∷ before) so.reads
      (each_legal list script before (row ∷ before) so.reads least are_messages)) i

  reads_rise : never_fall (reverse (read_messages reads (numbers_told so.reads))) ≡ true
  reads_rise =
      ap (λ ms. never_fall (reverse ms)) messages ∙ never_fall-lines so.reads (λ k from. (got_of_ring k from).rise)

  rings_settled : (k : ℕ) → k < length list.slots → (from : Source)
      → IsRingOf (incoming_shape list k from) (words (row ∷ before) k from)
      (pairs_read list script so.numbers k from
      ++ pairs_read_in list script (row ∷ before) (read_messages reads (numbers_told so.reads)) k from)
      (at_source (end_at (desk_ends so.new.desks.items) k) from)
  rings_settled k near from =
      let settled = (so.tells.settles.each k (omega (arith, near, last_count))).settled_is from in
      rw (settled, messages, pairs_told list script (row ∷ before) so.reads k from rings_told, are_lines.pairs k from)
      (ring_is k near from).ring

  -- The report, whose lines of nodes these are.

  abbrev numbers : Numbers
  numbers = so.numbers

  abbrev pub report_of : List NodeLine → SlotReport
  report_of nodes = record { slot = so.at.slot; nodes = nodes; writes = so.writes; reads = so.reads }

  -- all nodes have ended it
  pub has_ended : HaveEndedSlot list script row before so.new.seats.items (desk_numbers so.new.desks.items)
  has_ended = record {
    bound = most_ahead (so.at.slot + 1);
    seats_are = so.ends.are.seats;
    stand = ended.stand;
    numbers = λ k near. numbers_delivered k (omega (arith, near, so.ends.are.seats_count));
  }

  module _ (nodes : List NodeLine)
      (are : nodes ≡ map (node_shown list script row before) (below (length list.slots))) where
    abbrev told : SlotNumbers
    told = report_numbers (report_of nodes)

    row_count : length row ≡ length list.slots
    row_count = length-row_in (next_slot list script numbers) so.mid.chosen.items

    sent : told.sent ≡ map message_of row
    sent = sent_told list script row before (length list.slots) nodes row_count are

    -- they make the slot's row
    rows : row_of_world list script told numbers ≡ row
    rows = ap (λ (ns : List (Option ℕ)). row_of_world list script (record { sent = ns; read = told.read }) numbers) sent
        ∙ row_of_world-told list script numbers so.mid.chosen.items told.read of_hosts

    sent_at : (k : ℕ) → k < length list.slots
        → get_or told.sent k None ≡ number_in_frame (next_slot list script numbers) so.mid.chosen.items k
    sent_at k node = ap (λ (ns : List (Option ℕ)). get_or ns k None) sent ∙ get_or-map message_of row k entry.Off
        ∙ message_of-row_in (next_slot list script numbers) so.mid.chosen.items k node

    stand : NodesStandFor list script (nodes_view so.new) (told ∷ numbers)
    stand = record {
      seats = rw rows ended.stand;
      written = λ k node. rw (sent_at k node) (rw (← so.ends.host_ends) at (planned.chosen.written k node));
      read = λ k node from. rw (rows, so.stands.count) (rings_settled k node from);
    }

    -- Legal numbers.

    legal_at : (k : ℕ) → k < length list.slots
        → is_legal_message list script (length before) k (message_of (entry_of row k)) ≡ true
    legal_at k node = rw (message_of-row_in (next_slot list script numbers) so.mid.chosen.items k node)
        (rw (← length-world list script numbers) at (planned.chosen.legal k node))

    messages_legal : are_legal_messages list script (length before) row told.sent ≡ true
    messages_legal =
        let legal = λ (k : ℕ). is_legal_message list script (length before) k (message_of (entry_of row k)) in
        let each : list_all legal (below (length row)) ≡ true =
        ap (λ m. list_all legal (below m)) row_count ∙ all-below legal (length list.slots) legal_at in
        let same : are_same_numbers told.sent (map message_of row) ≡ true =
        ap (λ (ns : List (Option ℕ)). are_same_numbers ns (map message_of row)) sent
        ∙ same_numbers (map message_of row) in
        λ i. same i && each i

    slot_legal : is_legal_slot list script row before told ≡ true
    slot_legal =
        let reads = subst (λ n. are_legal_reads list script before (row ∷ before) (reads_in script n) told.read ≡ true)
        (sym slots) reads_legal in
        λ i. messages_legal i && reads i

    legal : IsLegal list script numbers → IsLegal list script (told ∷ numbers)
    legal older =
        legal-after list script told numbers older (rw rows slot_legal) (rw so.stands.count reads_rise)

    pub is_next : IsNextOf list script numbers (nodes_view so.new) (report_of nodes)
    is_next = record {
      stands = stand;
      shows = record {
        slot = sym slots;
        nodes = rw rows are;
        writes = rw slots so.plans.lines_are;
        reads = reads_shown_are
            ∙ (λ i. map (read_shown list script (sym rows i ∷ before))
            (read_messages (reads_in script (sym slots i)) told.read));
      };
      legal = legal;
    }

-- A cluster whose nodes were taken through a slot is next to what it stood for.
pub next_cluster : (course : Course) (at : Progress) {nodes : Nodes} {numbers : Numbers} (new : Nodes)
    (report : SlotReport) → at.nodes ≡ Some nodes → ClusterStandsFor (cluster_at course at) numbers
    → ((ns : Numbers) → NodesStandAt course.list.now course.script.now at.done (nodes_view nodes) ns
    → IsNextOf course.list.now course.script.now ns (nodes_view new) report)
    → IsNext (cluster_of course.list.now course.script.now (at.done + 1) (Some new) report) numbers
next_cluster course at {nodes = nodes} {numbers = numbers} new report were stands next = grind steps

-- what a slot makes of a cluster is what is told
pub told_next : (course : Course) (old new : Progress) → IsOnCourse course old → old.done < course.script.now.slots
    → ClusterSteps (cluster_at course old) (cluster_at course new)
    → AreBytesBefore course.list.now course.script.now new.done
    → new.done ≡ old.done + 1 → IsToldOf (cluster_at course old) (cluster_at course new) course.list.now new.report
told_next course old new within slot steps bytes done = search
