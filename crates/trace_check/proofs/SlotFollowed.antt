-- A follower in a slot, whose messages are those that the text names.
use Rattle.trace_check.proofs.Words.{◌≡◌, ℕ, ◌+◌, ◌<◌, List, [], ◌∷◌, length, get_or, Option, Some, IsTrue, refl, ap}
use Rattle.trace_check.proofs.Words.{sym, ◌∙◌, subst, arith, ◌++◌, ◌≤◌, ◌&&◌, Bool, None, append_assoc, drop}
use Rattle.trace_check.proofs.Words.{if◌then◌else◌, length-append, take, map, nat_le, reverse, AllByRecursion, concat}
use Rattle.trace_check.proofs.Words.{list_all, get_or-append_seam, take-append_seam, and_parts, le-leb, leb-true}
use Rattle.trace_check.proofs.Words.{length-map, map-append, take-append-drop, same_Some, get_or-map-range_with_len}
use Rattle.trace_check.proofs.Words.{length-map-range_with_len, below, Lines, HostRead, lines_of, Medl, Chosen, Entry}
use Rattle.trace_check.proofs.Words.{Script, History, entry_of, IsLegal, ReadMessage, is_legal_message, is_legal_read}
use Rattle.trace_check.proofs.Words.{never_fall, read_messages, IsValid, message_of, message_chosen, nothing_chosen}
use Rattle.trace_check.proofs.Words.{IsValidScript, reads_in, node_line_of, read_line, read_lines, write_lines, Numbers}
use Rattle.trace_check.proofs.Words.{SlotNumbers, chosen_of, is_loaded, row_in, slot_after, world, message_of-row_in}
use Rattle.trace_check.proofs.Words.{legal-AreNumbersOfAll, legal-shapes, newest_read, length-world, row_of_world}
use Rattle.trace_check.proofs.Words.{AreRuns, AreChosen, PlantView, Follower, Incoming, Outgoing, BeginsWith, Departs}
use Rattle.trace_check.proofs.Words.{DepartsAfter, GoesOnTo, HasEnded, IsPast, MayReadAll, ReadsAmiss, ReadsOn}
use Rattle.trace_check.proofs.Words.{StandsAt, FollowerStandsFor, line_of_read, lines_of_slot, node_lines, row_after}
use Rattle.trace_check.proofs.Words.{AreFloorsWithin, TellsRings, floor_of, floor_place, newest_before, Chooses}
use Rattle.trace_check.proofs.Words.{HasChosen, HoldsNewest, number_by_text, AreLines, AreLines-take}
use Rattle.std.proofs.Math.ListN.{get_or-map}
use Rattle.ttp_world.specs.declared.node.Entry.TheVariants as entry
use Rattle.ttp_world.specs.declared.script.TheConstants.{SLOT_LIMIT}
use Rattle.ttp_world.specs.Legal.{all_reads}
use Rattle.ttp_world.specs.World.{messages_chosen}
use Rattle.ttp_world.proofs.Carried.{row_in-same}
use Rattle.ttp_world.proofs.LegalShapes.{legal-message, legal-reads, reads-never_fall}
use Rattle.trace_check.proofs.FromBelow.{legal-names, named-run, chosen-step}
use Rattle.controller.specs.PlantStands.{MayStep, PlantStandsFor, Steps}
use Rattle.trace_check.specs.Outgoing.{number_by_line}
use Rattle.trace_check.proofs.Counts.{length-read_messages}
use Rattle.trace_check.proofs.NodesAlike.{node_line-same}
use Rattle.trace_check.proofs.NodesDepart.{legal-small, line-behind, line-names, node-at, node-is_line, same_message}
use Rattle.trace_check.proofs.NodesDepart.{slot-lines, taken-named}
use Rattle.trace_check.proofs.OneRead.{not_older, up_to_newest}
use Rattle.trace_check.proofs.ReadsDepart.{count-first, has-next, length-rest, may-next, messages-rest, newest_rest}
use Rattle.trace_check.proofs.ReadsDepart.{small-first}
use Rattle.trace_check.proofs.SlotChosen.{begins-append, chosen-ended, chosen-sizes, goes-on}
use Rattle.trace_check.proofs.SlotChosen.{legal-chosen, lines-chosen, row-chosen}
use Rattle.trace_check.proofs.SlotChosen.{departs-early, taken-legal}
use Rattle.trace_check.proofs.Told.{front-same, rest-same}

-- all numbers that a follower stands for are of as many slots
pub slots-of : (f : Follower) (list : Medl) (script : Script) (slot : ℕ) (numbers : Numbers)
    → StandsAt f list script slot → FollowerStandsFor f list script numbers → slot ≡ length numbers
slots-of f list script slot numbers at stands =
    omega (
      arith,
      at.count,
      at.stands.plant.slot,
      stands.plant.slot,
      length-world list script at.numbers,
      length-world list script numbers,
    )

-- hosts may always read the newest messages
newest-may : (list : Medl) (script : Script) (history : History) (chosen : List Chosen) (earlier : List ReadMessage)
    (reads : List HostRead)
    → AllByRecursion
    (λ r. r.number ≤ newest_before list script (row_after list script history chosen ∷ history) r.read) earlier
    → MayReadAll list script history chosen earlier
    (read_messages reads
    (map (newest_before list script (row_after list script history chosen ∷ history)) reads))
newest-may list script history chosen earlier [] up = tt
newest-may list script history chosen earlier (read ∷ reads) up =
    let most = newest_before list script (row_after list script history chosen ∷ history) in
    let r : ReadMessage = record { read = read; number = most read } in
    let low = newest_read list script (row_after list script history chosen) history read.host read.source in (
      record {
        between = λ i. le-leb (newest_before list script history read) (most read) low i
            && le-leb (most read) (most read) (omega arith) i;
        not_older = not_older r earlier (up_to_newest most read (most read) earlier (omega arith) up);
      },
      newest-may list script history chosen (r ∷ earlier) reads (omega arith, up),
    )

-- after legal reads hosts may read the newest messages
may-rest : (list : Medl) (script : Script) (history : History) (chosen : List Chosen) (earlier : List ReadMessage)
    (reads : List HostRead) (numbers : List ℕ)
    → AllByRecursion
    (λ r. r.number ≤ newest_before list script (row_after list script history chosen ∷ history) r.read) earlier
    → MayReadAll list script history chosen earlier (read_messages reads numbers)
    → MayReadAll list script history chosen earlier
    (read_messages reads
    (newest_rest (newest_before list script (row_after list script history chosen ∷ history)) reads numbers))
unfolding newest_rest
may-rest list script history chosen earlier reads [] up may = newest-may list script history chosen earlier reads up
may-rest list script history chosen earlier [] (number ∷ numbers) up may = tt
may-rest list script history chosen earlier (read ∷ reads) (number ∷ numbers) up may =
    let most = newest_before list script (row_after list script history chosen ∷ history) in
    let parts = and_parts (nat_le (newest_before list script history read) number) (nat_le number (most read))
    may.0.between in (
      may.0,
      may-rest list script history chosen ((record { read = read; number = number }) ∷ earlier) reads numbers
          (leb-true number (most read) parts.1, up) may.1,
    )

floors-same : (old new : Incoming) (list : Medl) (script : Script) (history : History) → new.nodes ≡ old.nodes
    → new.floors ≡ old.floors → AreFloorsWithin old list script history → AreFloorsWithin new list script history
floors-same old new list script history nodes floors within = λ host from ring.
    let same : floor_of new host from ≡ floor_of old host from =
    λ i. get_or (floors i).items (floor_place (nodes i) host from) 0 in
    omega (arith, same, within host from ring)

pub has-chosen : (o : Outgoing) (list : Medl) (script : Script) (slot : ℕ) (text : List ℕ)
    → Chooses o list script slot (number_by_text list script slot text) → HasChosen o list script slot
has-chosen o list script slot text chooses = record {
  number = number_by_text list script slot text;
  legal = λ k node. taken-legal list script slot k (number_by_line (get_or (lines_of text) k []));
  chooses = chooses;
}

module _ (list : Medl) (script : Script) (valid : IsValid list) (valid_script : IsValidScript list script) (slot : ℕ)
    (text : List ℕ) (old : Follower) (o : Outgoing)
    (chooses : Chooses o list script slot (number_by_text list script slot text)) (chosen : List Chosen)
    (is : chosen ≡ o.chosen.items) (numbers : Numbers) (legal : IsLegal list script numbers)
    (stands : FollowerStandsFor old list script numbers) (count : slot ≡ length numbers) where
  abbrev before : History
  before = world list script numbers

  number_legal : (k : ℕ)
      → IsTrue (is_legal_message list script (length numbers) k
      (Some (number_by_text list script (length numbers) text k)))
  number_legal k = taken-legal list script (length numbers) k (number_by_line (get_or (lines_of text) k []))

  chosen_at : (k : ℕ) → k < length list.slots
      → chosen_of chosen k
      ≡ message_chosen list script (length numbers) k (Some (number_by_text list script (length numbers) text k))
  chosen_at k node =
      ap (λ (cs : List Chosen). chosen_of cs k) is ∙ chooses.chosen k node
      ∙ ap (λ (m : ℕ). message_chosen list script m k (Some (number_by_text list script m text k))) count

  pub may-step : MayStep old.plant script chosen
  may-step =
      chosen-step chosen (subst IsValid (sym stands.same) valid) stands.plant
      (subst (λ (l : Medl). AreChosen (slot_after l script (world list script numbers)) chosen) (sym stands.same)
      (chosen-sizes list script valid valid_script numbers legal chosen
      (number_by_text list script (length numbers) text)
      number_legal chosen_at))

  module _ (plant : PlantView) (steps : Steps old.plant plant script chosen) (same : plant.list ≡ old.plant.list) where
    pub ended : HasEnded plant old.incoming list script (world list script numbers) chosen
    ended =
        chosen-ended list script valid valid_script numbers legal chosen
        (number_by_text list script (length numbers) text) number_legal chosen_at plant old.incoming
        (same ∙ stands.same) (steps (world list script numbers) stands.plant) stands.incoming

    pub past : slot < SLOT_LIMIT → IsPast plant old.incoming list slot
    past small = record {
      script = script;
      history = world list script numbers;
      chosen = chosen;
      few = length-world list script numbers ∙ sym count;
      small = small;
      ended = ended;
    }

    -- once all reads were made, where the messages are still those from before the slot
    pub ended-with : (incoming : Incoming) → TellsRings incoming list script (world list script numbers)
        → HasEnded plant incoming list script (world list script numbers) chosen
    ended-with incoming rings = record {
      same = ended.same;
      step = ended.step;
      of_hosts = ended.of_hosts;
      senders = ended.senders;
      rings = rings;
    }

    pub past-with : (incoming : Incoming) → slot < SLOT_LIMIT
        → TellsRings incoming list script (world list script numbers) → IsPast plant incoming list slot
    past-with incoming small rings = record {
      script = script;
      history = world list script numbers;
      chosen = chosen;
      few = length-world list script numbers ∙ sym count;
      small = small;
      ended = ended-with incoming rings;
    }

    module _ (read : List ℕ) where
      abbrev new_numbers : SlotNumbers
      new_numbers = record {
        sent = map message_of (row_after list script (world list script numbers) chosen);
        read = read;
      }

      world_is : world list script (new_numbers ∷ numbers)
          ≡ row_after list script (world list script numbers) chosen ∷ world list script numbers
      world_is =
          ap (λ (r : List Entry). r ∷ world list script numbers)
          (row-chosen list script valid valid_script numbers legal chosen
          (number_by_text list script (length numbers) text) number_legal chosen_at read)

      stands_next : (new : Follower) (mid : Incoming) → new.plant ≡ plant
          → HoldsNewest new.outgoing list script (slot + 1)
          → TellsRings new.incoming list script
          (row_after list script (world list script numbers) chosen ∷ world list script numbers)
          → mid.nodes ≡ length list.slots → new.incoming.floors ≡ mid.floors
          → AreFloorsWithin mid list script
          (row_after list script (world list script numbers) chosen ∷ world list script numbers)
          → FollowerStandsFor new list script (new_numbers ∷ numbers)
      stands_next new mid plant_is outgoing incoming nodes floors within =
          let history = sym world_is in
          record {
            same = ap (λ (p : PlantView). p.list) plant_is ∙ same ∙ stands.same;
            plant =
                subst (λ (p : PlantView). PlantStandsFor p script (world list script (new_numbers ∷ numbers)))
                (sym plant_is)
                (subst (PlantStandsFor plant script) history
                (subst (λ (l : Medl). PlantStandsFor plant script
                (row_in (slot_after l script (world list script numbers)) chosen ∷ world list script numbers))
                (same ∙ stands.same) ended.step.stands));
            outgoing = subst (HoldsNewest new.outgoing list script) (omega (arith, count)) outgoing;
            incoming = subst (TellsRings new.incoming list script) history incoming;
            floors =
                floors-same mid new.incoming list script (world list script (new_numbers ∷ numbers))
                (incoming.places.nodes ∙ sym nodes) floors (subst (AreFloorsWithin mid list script) history within);
          }

    pub goes-on-to : (new : Follower) (mid : Incoming) (one two rest : List ℕ) → new.plant ≡ plant
        → BeginsWith text (node_lines list script (world list script numbers) chosen) one
        → BeginsWith one (write_lines list script slot) two
        → ReadsOn list script (world list script numbers) chosen (reads_in script slot) two rest
        → HoldsNewest new.outgoing list script (slot + 1)
        → TellsRings new.incoming list script
        (row_after list script (world list script numbers) chosen ∷ world list script numbers)
        → mid.nodes ≡ length list.slots → new.incoming.floors ≡ mid.floors
        → AreFloorsWithin mid list script
        (row_after list script (world list script numbers) chosen ∷ world list script numbers)
        → GoesOnTo new list script numbers text rest
    goes-on-to new mid one two rest plant_is nodes writes reads outgoing incoming width floors within =
        let reads_at =
        subst (λ (m : ℕ). ReadsOn list script (world list script numbers) chosen (reads_in script m) two rest) count
        reads in
        record {
          goes_on = record {
            new = record {
              sent = map message_of (row_after list script (world list script numbers) chosen);
              read = reads_at.numbers;
            };
            legal =
                legal-chosen list script valid valid_script numbers legal chosen
                (number_by_text list script (length numbers) text) number_legal
                chosen_at reads_at.numbers reads_at.count
                reads_at.legal;
            begins =
                goes-on list script valid valid_script numbers legal chosen
                (number_by_text list script (length numbers) text) number_legal chosen_at text one two rest nodes
                (subst (λ (m : ℕ). BeginsWith one (write_lines list script m) two) count writes) reads_at;
          };
          stands = stands_next reads_at.numbers new mid plant_is outgoing incoming width floors within;
        }

    -- hosts would have read the newest messages
    newest_reads : List ℕ
    newest_reads =
        map (newest_before list script
        (row_after list script (world list script numbers) chosen ∷ world list script numbers))
        (reads_in script (length numbers))

    -- the text departs from the lines of what hosts write
    pub departs-writes : (one rest : List ℕ) → BeginsWith text
        (node_lines list script (world list script numbers) chosen) one
        → Departs one (write_lines list script slot) rest → DepartsAfter list script numbers text rest
    unfolding newest_reads
    departs-writes one rest nodes departs =
        let history = world list script numbers in
        let a = node_lines list script history chosen in
        let writes_at : Departs one (write_lines list script (length numbers)) rest =
        subst (λ (m : ℕ). Departs one (write_lines list script m) rest) count departs in
        let front = a ++ writes_at.right in
        let reads = reads_in script (length numbers) in
        departs-early list script valid valid_script numbers legal chosen
        (number_by_text list script (length numbers) text) number_legal chosen_at text rest writes_at.due front
        writes_at.others newest_reads (length-map reads _)
        (newest-may list script history chosen [] reads tt)
        (ap (λ (ls : Lines). a ++ ls) writes_at.parts
        ∙ sym (append_assoc a writes_at.right (writes_at.due ∷ writes_at.others)))
        (begins-append text one rest a writes_at.right nodes writes_at.begins)
        (λ other more legal_too same is.
        let nodes_too = map (node_line_of list script (row_of_world list script other numbers) history)
        (below (length list.slots)) in
        let reads_too = read_lines list script (length history)
        (row_of_world list script other numbers ∷ history) other.read in
        let width : length (nodes_too ++ writes_at.right) ≡ length front =
        omega (
          arith,
          length-append nodes_too writes_at.right,
          length-append a writes_at.right,
          length-map-range_with_len
              (node_line_of list script (row_of_world list script other numbers) history) 0 (length list.slots),
          length-map-range_with_len
              (node_line_of list script (row_after list script history chosen) history) 0 (length list.slots),
        ) in
        let whole : lines_of_slot list script other numbers
        ≡ (nodes_too ++ writes_at.right) ++ writes_at.due ∷ (writes_at.others ++ reads_too) =
        ap (λ (ls : Lines). (nodes_too ++ ls) ++ reads_too)
        (ap (write_lines list script) (length-world list script numbers) ∙ writes_at.parts)
        ∙ ap (λ (ls : Lines). ls ++ reads_too)
        (sym (append_assoc nodes_too writes_at.right (writes_at.due ∷ writes_at.others)))
        ∙ append_assoc (nodes_too ++ writes_at.right) (writes_at.due ∷ writes_at.others) reads_too in
        let line : get_or (lines_of_slot list script other numbers) (length front) [] ≡ writes_at.due =
        (λ i. get_or (whole i) (sym width i) [])
        ∙ get_or-append_seam (nodes_too ++ writes_at.right) writes_at.due (writes_at.others ++ reads_too) [] in
        writes_at.wrong more (is ∙ ap (λ (l : List ℕ). l ++ more) line))

    -- both are runs in which frames carry messages of the list's sizes
    runs_with : (other : SlotNumbers) → IsLegal list script (other ∷ numbers)
        → AreRuns list script
        (row_after list script (world list script numbers) chosen ∷ world list script numbers)
        (world list script (other ∷ numbers))
    runs_with other legal_too = record {
      valid = valid_script;
      first = (
        record {
          chosen = chosen;
          sizes = chosen-sizes list script valid valid_script numbers legal chosen
              (number_by_text list script (length numbers) text) number_legal chosen_at;
          made = refl;
        },
        named-run list script numbers valid_script (legal-names list script numbers legal),
      );
      second = named-run list script (other ∷ numbers) valid_script
          (legal-names list script (other ∷ numbers) legal_too);
      slots = refl;
    }

    -- the text departs from the lines of the nodes
    pub departs-nodes : (rest : List ℕ) → slot < script.slots
        → Departs text (node_lines list script (world list script numbers) chosen) rest
        → DepartsAfter list script numbers text rest
    unfolding newest_reads
    departs-nodes rest within departs =
        let history = world list script numbers in
        let row = row_after list script history chosen in
        let f = node_line_of list script row history in
        let n = length list.slots in
        let j = length departs.right in
        let a = node_lines list script history chosen in
        let b = write_lines list script (length numbers) in
        let reads = reads_in script (length numbers) in
        let node : j < n =
        omega (
          arith,
          length-map-range_with_len f 0 n,
          ap length departs.parts,
          length-append departs.right (departs.due ∷ departs.others),
        ) in
        let due_is : departs.due ≡ f j =
        sym (get_or-append_seam departs.right departs.due departs.others [])
        ∙ ap (λ (ls : Lines). get_or ls j []) (sym departs.parts)
        ∙ get_or-map-range_with_len f 0 n j j [] node (omega arith) in
        departs-early list script valid valid_script numbers legal chosen
        (number_by_text list script (length numbers) text) number_legal chosen_at text rest departs.due departs.right
        (departs.others ++ b) newest_reads (length-map reads _)
        (newest-may list script history chosen [] reads tt)
        (ap (λ (ls : Lines). ls ++ b) departs.parts ∙ append_assoc departs.right (departs.due ∷ departs.others) b)
        departs.begins
        (λ other more legal_too same is.
        let row_too = row_of_world list script other numbers in
        let line = node_line_of list script row_too history j in
        let at = node-at list script other numbers j node in
        let there : rest ≡ line ++ more = is ∙ ap (λ (l : List ℕ). l ++ more) at in
        let s = slot_after list script history in
        let chosen_too = messages_chosen list script (length numbers) other.sent in
        let i = (chosen_of chosen_too j).number in
        let are : AreLines departs.right =
        subst AreLines same (AreLines-take j (lines_of_slot list script other numbers)
        (slot-lines list script other numbers)) in
        let in_text : get_or (lines_of text) j [] ≡ line =
        line-behind text rest line more departs.right departs.begins there are
        (node-is_line list script other numbers j node) in
        let number : message_of (entry_of row j) ≡ message_of (entry_of row_too j) =
        same_message (is_loaded s j) (chosen_of chosen j).number i (message_of (entry_of row j))
        (message_of (entry_of row_too j)) (message_of-row_in s chosen j node) (message_of-row_in s chosen_too j node)
        (λ told.
        let ok : IsTrue (is_legal_message list script (length numbers) j (Some i)) =
        subst (λ (o : Option ℕ). IsTrue (is_legal_message list script (length numbers) j o)) told
        (legal-message list script other numbers j legal_too node) in
        ap (λ (c : Chosen). c.number) (chosen_at j node)
        ∙ taken-named list script (length numbers) j i text line in_text
        (line-names list script row_too history j i told
        (legal-small list script (length numbers) j i valid valid_script (omega (arith, count, within)) ok)) ok) in
        departs.wrong more
        (there
        ∙ ap (λ (l : List ℕ). l ++ more)
        (sym (node_line-same list script row row_too history (runs_with other legal_too) j node number) ∙ sym due_is)))

    -- the text departs from the line of a read
    pub departs-reads : (one two rest : List ℕ) → slot < script.slots
        → BeginsWith text (node_lines list script (world list script numbers) chosen) one
        → BeginsWith one (write_lines list script slot) two
        → ReadsAmiss list script (world list script numbers) chosen (reads_in script slot) two rest
        → DepartsAfter list script numbers text rest
    departs-reads one two rest within nodes writes wrong_at =
        let history = world list script numbers in
        let row = row_after list script history chosen in
        let n = length list.slots in
        let at = length-world list script numbers in
        let few : length numbers < script.slots = omega (arith, count, within) in
        let amiss : ReadsAmiss list script history chosen (reads_in script (length numbers)) two rest =
        subst (λ (m : ℕ). ReadsAmiss list script history chosen (reads_in script m) two rest) count wrong_at in
        let m = amiss.numbers in
        let reads = reads_in script (length numbers) in
        let most = newest_before list script (row ∷ history) in
        let read = newest_rest most reads m in
        let tail = messages-rest most reads m (omega (arith, amiss.within)) in
        let a = node_lines list script history chosen in
        let b = write_lines list script (length numbers) in
        let line = read_line list script (length numbers) (row ∷ history) in
        let c = map line (read_messages reads m) in
        let front = (a ++ b) ++ c in
        let new : SlotNumbers = record { sent = map message_of row; read = read } in
        let lines = lines_of_slot list script new numbers in
        let whole : lines ≡ front ++ map line tail.0 =
        lines-chosen list script valid valid_script numbers legal chosen
        (number_by_text list script (length numbers) text) number_legal chosen_at read
        ∙ ap (λ (rs : List ReadMessage). (a ++ b) ++ map line rs) tail.1
        ∙ ap (λ (ls : Lines). (a ++ b) ++ ls) (map-append line (read_messages reads m) tail.0)
        ∙ sym (append_assoc (a ++ b) c (map line tail.0)) in
        let first : take (length front) lines ≡ front =
        ap (λ (ls : Lines). take (length front) ls) whole ∙ take-append_seam front (map line tail.0) in
        let counted = length-rest most reads m (length-map reads most) in
        let new_legal =
        legal-chosen list script valid valid_script numbers legal chosen
        (number_by_text list script (length numbers) text) number_legal chosen_at read counted
        (may-rest list script history chosen [] reads m tt amiss.legal) in
        let third : BeginsWith two c rest =
        amiss.begins
        ∙ ap (λ (k : ℕ). concat (map (read_line list script k (row ∷ history)) (read_messages reads m)) ++ rest) at in
        let writes_at : BeginsWith one b two =
        subst (λ (k : ℕ). BeginsWith one (write_lines list script k) two) count writes in
        record {
          new = new;
          legal = new_legal;
          right = length front;
          within =
              omega (
                arith,
                ap length whole,
                length-append front (map line tail.0),
                length-map tail.0 line,
                ap length tail.1,
                length-append (read_messages reads m) tail.0,
                length-read_messages reads read counted,
                count-first reads m (omega (arith, amiss.within)),
                amiss.within,
              );
          begins =
              subst (λ (ls : Lines). BeginsWith text ls rest) (sym first)
              (begins-append text two rest (a ++ b) c (begins-append text one two a b nodes writes_at) third);
          wrong = λ other more legal_too same is.
              let s = slot_after list script history in
              let chosen_too = messages_chosen list script (length numbers) other.sent in
              let row_too = row_of_world list script other numbers in
              let f_too = node_line_of list script row_too history in
              let f = node_line_of list script row history in
              let nodes_too = map f_too (below n) in
              let b_too = write_lines list script (length history) in
              let c_too = read_lines list script (length history) (row_too ∷ history) other.read in
              let lines_too = lines_of_slot list script other numbers in
              let d = drop (length front) lines_too in
              let cut : lines_too ≡ front ++ d =
              sym (take-append-drop (length front) lines_too) ∙ ap (λ (ls : Lines). ls ++ d) (same ∙ first) in
              let long : nodes_too ++ (b_too ++ c_too) ≡ a ++ (b ++ (c ++ d)) =
              sym (append_assoc nodes_too b_too c_too) ∙ cut ∙ append_assoc (a ++ b) c d ∙ append_assoc a b (c ++ d) in
              let many : length nodes_too ≡ length a =
              length-map-range_with_len f_too 0 n ∙ sym (length-map-range_with_len f 0 n) in
              let nodes_same : nodes_too ≡ a = front-same nodes_too a (b_too ++ c_too) (b ++ (c ++ d)) many long in
              let reads_same : c_too ≡ c ++ d =
              rest-same b_too b c_too (c ++ d) (ap (λ (k : ℕ). length (write_lines list script k)) at)
              (rest-same nodes_too a (b_too ++ c_too) (b ++ (c ++ d)) many long) in
              let row_same : row_too ≡ row =
              row_in-same s chosen_too chosen (record {
                same = λ k node loaded.
                    let i = (chosen_of chosen_too k).number in
                    let told_too : message_of (entry_of row_too k) ≡ Some i =
                    message_of-row_in s chosen_too k node
                    ∙ ap (λ (l : Bool). if l then Some i else None) loaded in
                    let told : message_of (entry_of row k) ≡ Some (chosen_of chosen k).number =
                    message_of-row_in s chosen k node
                    ∙ ap (λ (l : Bool). if l then Some (chosen_of chosen k).number else None) loaded in
                    let ok : IsTrue (is_legal_message list script (length numbers) k (Some i)) =
                    subst (λ (o : Option ℕ). IsTrue (is_legal_message list script (length numbers) k o)) told_too
                    (legal-message list script other numbers k legal_too node) in
                    let number_is : (chosen_of chosen k).number ≡ number_by_text list script (length numbers) text k =
                    ap (λ (c : Chosen). c.number) (chosen_at k node) in
                    let small = legal-small list script (length numbers) k
                    (number_by_text list script (length numbers) text k) valid
                    valid_script few (number_legal k) in
                    let line_k : f_too k ≡ f k =
                    sym (get_or-map-range_with_len f_too 0 n k k [] node (omega arith))
                    ∙ ap (λ (ls : Lines). get_or ls k []) nodes_same
                    ∙ get_or-map-range_with_len f 0 n k k [] node (omega arith) in
                    let equal : i ≡ (chosen_of chosen k).number =
                    same_Some i (chosen_of chosen k).number
                    (sym (line-names list script row_too history k i told_too
                    (legal-small list script (length numbers) k i valid valid_script few ok))
                    ∙ ap number_by_line line_k
                    ∙ line-names list script row history k (chosen_of chosen k).number
                    told (omega (arith, small, number_is))) in
                    let sent : get_or other.sent k None ≡ Some i =
                    ap (λ (ns : List (Option ℕ)). get_or ns k None)
                    (legal-shapes list script (other ∷ numbers) legal_too).0.sent
                    ∙ get_or-map message_of row_too k entry.Off ∙ told_too in
                    get_or-map-range_with_len
                    (λ (j : ℕ). message_chosen list script (length numbers) j (get_or other.sent j None)) 0 n k k
                    nothing_chosen node (omega arith)
                    ∙ ap (message_chosen list script (length numbers) k) (sent ∙ ap Some (equal ∙ number_is))
                    ∙ sym (chosen_at k node);
              }) in
              let reads_here : map line (read_messages reads other.read) ≡ c ++ d =
              (λ i. map (read_line list script (sym at i) (sym row_same i ∷ history))
              (read_messages (reads_in script (sym at i)) other.read)) ∙ reads_same in
              let next = has-next list script (length numbers) (row ∷ history) reads m other.read d amiss.within
              (legal-shapes list script (other ∷ numbers) legal_too).0.reads
              (small-first most reads m (omega (arith, amiss.within))
              (legal-AreNumbersOfAll list script (new ∷ numbers) valid valid_script
              (omega (arith, few)) new_legal).0.small_read)
              (legal-AreNumbersOfAll list script (other ∷ numbers) valid valid_script
              (omega (arith, few)) legal_too).0.small_read
              reads_here in
              let r : ReadMessage = record { read = next.read; number = next.number } in
              let later : d ≡ line r ∷ map line next.later =
              rest-same c c d (line r ∷ map line next.later) refl
              (sym reads_here ∙ ap (map line) next.messages
              ∙ map-append line (read_messages reads m) (r ∷ next.later)) in
              let due : get_or lines_too (length front) [] ≡ line_of_read list script history chosen r =
              ap (λ (ls : Lines). get_or ls (length front) []) (cut ∙ ap (λ (ls : Lines). front ++ ls) later)
              ∙ get_or-append_seam front (line r) (map line next.later) []
              ∙ ap (λ (k : ℕ). read_line list script k (row ∷ history) r) (sym at) in
              let may = may-next list script history chosen
              (read_messages reads m) r next.later (all_reads script numbers)
              (ap (list_all (is_legal_read list script history (row ∷ history))) (sym next.messages)
              ∙ ap (λ (now : List Entry). list_all (is_legal_read list script history (now ∷ history))
              (read_messages reads other.read)) (sym row_same)
              ∙ legal-reads list script other numbers legal_too)
              (ap (λ (rs : List ReadMessage). never_fall (reverse rs ++ all_reads script numbers)) (sym next.messages)
              ∙ reads-never_fall list script (other ∷ numbers) legal_too) in
              amiss.wrong next.read next.number more next.at may (is ∙ ap (λ (l : List ℕ). l ++ more) due);
        }
