-- A slot in which each frame carries a legal message: its row, its numbers and its lines.
use Rattle.trace_check.proofs.Words.{◌≡◌, ℕ, ◌<◌, Bool, true, false, ◌&&◌, List, [], ◌∷◌, ◌++◌, length, get_or, Option}
use Rattle.trace_check.proofs.Words.{Some, None, IfSome, IsTrue, if◌then◌else◌, refl, ap, sym, ◌∙◌, subst, arith}
use Rattle.trace_check.proofs.Words.{append_assoc, length-append, take, take-append_seam, map, reverse, concat}
use Rattle.trace_check.proofs.Words.{list_all, cond_both, eq-eqb, le-leb, reverse_onto, concat-append, below, Lines}
use Rattle.trace_check.proofs.Words.{Medl, Chosen, Delivered, Entry, Script, History, entry_of, IsLegal, ReadMessage}
use Rattle.trace_check.proofs.Words.{is_legal_message, is_legal_read, never_fall, read_messages, IsValid, message_of}
use Rattle.trace_check.proofs.Words.{newest_number, message_chosen, out_messages, IsValidScript, reads_in, read_line}
use Rattle.trace_check.proofs.Words.{read_lines, slot_lines, write_lines, Numbers, SlotNumbers, chosen_of, is_loaded}
use Rattle.trace_check.proofs.Words.{slot_after, world, delivered_of-row_in, message_of-row_in, length-world}
use Rattle.trace_check.proofs.Words.{row_of_world, AreChosen, IsOutcomeOf, outcome_at, PlantView, Incoming, BeginsWith}
use Rattle.trace_check.proofs.Words.{DepartsAfter, HasEnded, MayReadAll, ReadsOn, lines_of_slot, node_lines, row_after}
use Rattle.trace_check.proofs.Words.{TellsRings, number_taken, oldest_number}
use Rattle.std.proofs.Common.{append-nil}
use Rattle.ttp_base.proofs.Below.{all-below}
use Rattle.ttp_world.specs.Legal.{are_legal_messages, are_legal_reads}
use Rattle.ttp_world.specs.Legal.{is_legal_slot}
use Rattle.ttp_world.proofs.Carried.{AreOfHosts}
use Rattle.ttp_world.proofs.HostMessages.{legal-size}
use Rattle.ttp_world.proofs.Places.{delivered_of-sender, entry_of-row_after-of_list}
use Rattle.ttp_world.proofs.Rings.{newest_written}
use Rattle.ttp_world.proofs.Slots.{length-row_in}
use Rattle.ttp_world.proofs.Worlds.{row_of_world-told, world-of_list}
use Rattle.controller.specs.PlantStands.{IsStep}
use Rattle.ttp_world.proofs.LegalSlots.{legal-after}
use Rattle.ttp_world.proofs.LegalRuns.{are_same_numbers-refl as same_refl}

pub begins-append : (text one rest : List ℕ) (lines more : Lines) → BeginsWith text lines one → BeginsWith one more rest
    → BeginsWith text (lines ++ more) rest
begins-append text one rest lines more first second =
    first ∙ ap (λ (bytes : List ℕ). concat lines ++ bytes) second
    ∙ sym (append_assoc (concat lines) (concat more) rest)
    ∙ ap (λ (bytes : List ℕ). bytes ++ rest) (sym (concat-append lines more))

-- The number that is taken is legal.

oldest_legal : (list : Medl) (script : Script) (slot k : ℕ)
    → IsTrue (is_legal_message list script slot k (Some (oldest_number list script slot k)))
oldest_legal list script slot k =
    let oldest = oldest_number list script slot k in
    let newest = newest_number (out_messages list script k slot) in
    λ i. le-leb oldest oldest (omega arith) i && le-leb oldest newest (newest_written list script k slot) i

pub taken-legal : (list : Medl) (script : Script) (slot k : ℕ) (named : Option ℕ)
    → IsTrue (is_legal_message list script slot k (Some (number_taken list script slot k named)))
taken-legal list script slot k None = oldest_legal list script slot k
taken-legal list script slot k (Some i) =
    cond_both (is_legal_message list script slot k (Some i)) i (oldest_number list script slot k)
    (λ (n : ℕ). IsTrue (is_legal_message list script slot k (Some n))) (λ legal. legal)
    (λ other. oldest_legal list script slot k)

legal_if : (list : Medl) (script : Script) (slot k number : ℕ) (loaded : Bool)
    → is_legal_message list script slot k (Some number) ≡ true
    → is_legal_message list script slot k (if loaded then Some number else None) ≡ true
legal_if list script slot k number true is = is
legal_if list script slot k number false is = refl

module _ (list : Medl) (script : Script) (valid : IsValid list) (valid_script : IsValidScript list script)
    (numbers : Numbers) (legal : IsLegal list script numbers) (chosen : List Chosen) (f : ℕ → ℕ)
    (f_legal : (k : ℕ) → IsTrue (is_legal_message list script (length numbers) k (Some (f k))))
    (chosen_is : (k : ℕ) → k < length list.slots
    → chosen_of chosen k ≡ message_chosen list script (length numbers) k (Some (f k))) where
  abbrev before : History
  before = world list script numbers

  abbrev pub row_chosen : List Entry
  row_chosen = row_after list script (world list script numbers) chosen

  pub chosen-sizes : AreChosen (slot_after list script (world list script numbers)) chosen
  chosen-sizes = λ k node loaded.
      ap (λ (c : Chosen). length c.payload) (chosen_is k node)
      ∙ legal-size list script (length numbers) k (f k) valid_script (f_legal k)

  pub chosen-of_hosts : (k : ℕ) → k < length list.slots
      → is_loaded (slot_after list script (world list script numbers)) k ≡ true
      → chosen_of chosen k
      ≡ message_chosen list script (length (world list script numbers)) k (Some (chosen_of chosen k).number)
  chosen-of_hosts k node loaded =
      chosen_is k node
      ∙ (λ i. message_chosen list script (sym (length-world list script numbers) i) k
      (Some ((sym (chosen_is k node) i).number)))

  are_of_hosts : AreOfHosts (slot_after list script (world list script numbers)) chosen
  are_of_hosts = record { message = chosen-of_hosts }

  pub chosen-ended : (plant : PlantView) (incoming : Incoming) → plant.list ≡ list
      → IsStep plant script (world list script numbers) chosen
      → TellsRings incoming list script (world list script numbers)
      → HasEnded plant incoming list script (world list script numbers) chosen
  chosen-ended plant incoming same step rings = record {
    same = same;
    step = step;
    of_hosts = chosen-of_hosts;
    senders = λ k node.
        let left : IsOutcomeOf list script before chosen k (outcome_at plant k) =
        subst (λ (l : Medl). IsOutcomeOf l script before chosen k (outcome_at plant k)) same
        (step.left k (subst (λ (l : Medl). k < length l.slots) (sym same) node)) in
        subst (λ (o : Option Delivered). IfSome o (λ d. d.sender < length list.slots))
        (sym (left.delivered ∙ sym (delivered_of-row_in list script before chosen k are_of_hosts)))
        (delivered_of-sender list script before row_chosen k
        (entry_of-row_after-of_list list script before chosen k valid node (world-of_list list script numbers valid)));
    rings = rings;
  }

  pub row-chosen : (read : List ℕ)
      → row_of_world list script
      (record { sent = map message_of (row_after list script (world list script numbers) chosen); read = read })
      numbers
      ≡ row_after list script (world list script numbers) chosen
  row-chosen read = row_of_world-told list script numbers chosen read are_of_hosts

  messages_legal : are_legal_messages list script (length (world list script numbers)) row_chosen
      (map message_of row_chosen) ≡ true
  messages_legal =
      let s = slot_after list script before in
      let test = λ (k : ℕ). is_legal_message list script (length before) k (message_of (entry_of row_chosen k)) in
      let each : (k : ℕ) → k < length list.slots → test k ≡ true = λ k node.
      ap (is_legal_message list script (length before) k) (message_of-row_in s chosen k node)
      ∙ legal_if list script (length before) k (chosen_of chosen k).number (is_loaded s k)
      ((λ i. is_legal_message list script (length-world list script numbers i) k (Some (chosen_is k node i).number))
      ∙ f_legal k) in
      let all : list_all test (below (length row_chosen)) ≡ true =
      ap (λ (m : ℕ). list_all test (below m)) (length-row_in s chosen) ∙ all-below test (length list.slots) each in
      λ i. same_refl (map message_of row_chosen) i && all i

  each_between : (earlier rs : List ReadMessage)
      → MayReadAll list script (world list script numbers) chosen earlier rs
      → list_all (is_legal_read list script (world list script numbers) (row_chosen ∷ world list script numbers)) rs
      ≡ true
  each_between earlier [] may = refl
  each_between earlier (r ∷ rs) may = λ i. may.0.between i && each_between (r ∷ earlier) rs may.1 i

  never_falls : (earlier rs : List ReadMessage) → never_fall earlier ≡ true
      → MayReadAll list script (world list script numbers) chosen earlier rs
      → never_fall (reverse rs ++ earlier) ≡ true
  never_falls earlier [] falls may = falls
  never_falls earlier (r ∷ rs) falls may =
      ap (λ (back : List ReadMessage). never_fall (back ++ earlier)) (reverse_onto rs r [])
      ∙ ap never_fall (append_assoc (reverse rs) (r ∷ []) earlier)
      ∙ never_falls (r ∷ earlier) rs (λ i. may.0.not_older i && falls i) may.1

  pub legal-chosen : (read : List ℕ) → length read ≡ length (reads_in script (length numbers))
      → MayReadAll list script (world list script numbers) chosen []
      (read_messages (reads_in script (length numbers)) read)
      → IsLegal list script
      (record { sent = map message_of (row_after list script (world list script numbers) chosen); read = read }
      ∷ numbers)
  legal-chosen read count may =
      let slot = length-world list script numbers in
      let rs = λ (at : ℕ). read_messages (reads_in script at) read in
      let new : SlotNumbers = record { sent = map message_of row_chosen; read = read } in
      let reads : are_legal_reads list script before (row_chosen ∷ before)
      (reads_in script (length before)) read ≡ true =
      ap (λ (at : ℕ). are_legal_reads list script before (row_chosen ∷ before) (reads_in script at) read) slot
      ∙ (λ i. eq-eqb (length (reads_in script (length numbers))) (length read) (sym count) i
      && each_between [] (rs (length numbers)) may i) in
      let here : is_legal_slot list script row_chosen before new ≡ true = λ i. messages_legal i && reads i in
      legal-after list script new numbers legal
      (subst (λ (r : List Entry). is_legal_slot list script r before new ≡ true) (sym (row-chosen read)) here)
      (ap never_fall (sym (append-nil (reverse (rs (length numbers)))))
      ∙ never_falls [] (rs (length numbers)) refl may)

  pub lines-chosen : (read : List ℕ)
      → lines_of_slot list script
      (record { sent = map message_of (row_after list script (world list script numbers) chosen); read = read })
      numbers
      ≡ (node_lines list script (world list script numbers) chosen ++ write_lines list script (length numbers))
      ++ read_lines list script (length numbers)
      (row_after list script (world list script numbers) chosen ∷ world list script numbers) read
  lines-chosen read =
      let new : SlotNumbers = record { sent = map message_of row_chosen; read = read } in
      ap (λ (r : List Entry). slot_lines list script r before new) (row-chosen read)
      ∙ (λ i. (node_lines list script before chosen ++ write_lines list script (length-world list script numbers i))
      ++ read_lines list script (length-world list script numbers i) (row_chosen ∷ before) read)

  -- a text goes on with all lines
  pub goes-on : (text one two rest : List ℕ)
      → BeginsWith text (node_lines list script (world list script numbers) chosen) one
      → BeginsWith one (write_lines list script (length numbers)) two
      → (reads : ReadsOn list script (world list script numbers) chosen (reads_in script (length numbers)) two rest)
      → BeginsWith text
      (lines_of_slot list script
      (record {
        sent = map message_of (row_after list script (world list script numbers) chosen);
        read = reads.numbers;
      })
      numbers) rest
  goes-on text one two rest nodes writes reads =
      let a = node_lines list script before chosen in
      let b = write_lines list script (length numbers) in
      let c = read_lines list script (length numbers) (row_chosen ∷ before) reads.numbers in
      let third : BeginsWith two c rest =
      reads.begins
      ∙ ap (λ (n : ℕ). concat (map (read_line list script n (row_chosen ∷ before))
      (read_messages (reads_in script (length numbers)) reads.numbers)) ++ rest) (length-world list script numbers) in
      subst (λ (lines : Lines). BeginsWith text lines rest) (sym (lines-chosen reads.numbers))
      (begins-append text two rest (a ++ b) c (begins-append text one two a b nodes writes) third)

  -- where it departs from the lines before those of the reads
  pub departs-early : (text rest due : List ℕ) (front back : Lines) (read : List ℕ)
      → length read ≡ length (reads_in script (length numbers))
      → MayReadAll list script (world list script numbers) chosen []
      (read_messages (reads_in script (length numbers)) read)
      → node_lines list script (world list script numbers) chosen ++ write_lines list script (length numbers)
      ≡ front ++ due ∷ back
      → BeginsWith text front rest
      → ((other : SlotNumbers) (more : List ℕ) → IsLegal list script (other ∷ numbers)
      → take (length front) (lines_of_slot list script other numbers) ≡ front
      → ¬ (rest ≡ get_or (lines_of_slot list script other numbers) (length front) [] ++ more))
      → DepartsAfter list script numbers text rest
  departs-early text rest due front back read count may parts begins wrong =
      let new : SlotNumbers = record { sent = map message_of row_chosen; read = read } in
      let reads = read_lines list script (length numbers) (row_chosen ∷ before) read in
      let lines = lines_of_slot list script new numbers in
      let whole : lines ≡ front ++ (due ∷ back ++ reads) =
      lines-chosen read ∙ ap (λ (ls : Lines). ls ++ reads) parts ∙ append_assoc front (due ∷ back) reads in
      let first : take (length front) lines ≡ front =
      ap (λ (ls : Lines). take (length front) ls) whole ∙ take-append_seam front (due ∷ back ++ reads) in
      record {
        new = new;
        legal = legal-chosen read count may;
        right = length front;
        within = omega (arith, ap length whole, length-append front (due ∷ back ++ reads));
        begins = subst (λ (ls : Lines). BeginsWith text ls rest) (sym first) begins;
        wrong = λ other more legal_too same. wrong other more legal_too (same ∙ first);
      }
