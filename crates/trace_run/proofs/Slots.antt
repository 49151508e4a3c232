-- One slot of a run by the numbers that its trace names.
use Rattle.std.proofs.Common.{◌≡◌, ℕ, ◌+◌, ◌-◌, ◌<◌, ◌≤◌, Bool, true, List, [], ◌∷◌, ◌++◌, length, get_or}
use Rattle.std.proofs.Common.{drop, Option, Some, None, IsTrue, if◌then◌else◌, refl, ap, sym, subst, ◌∙◌}
use Rattle.std.proofs.Common.{length-append, length-drop, arith}
use Rattle.std.proofs.Math.ListN.{get_or-map}
use Rattle.std.proofs.lemmas.List.{drop-drop, drop_at, drop_more, get_or_append_left}
use Rattle.std.proofs.lemmas.List.FromFn.{get_or-map-range_with_len}
use Rattle.ttp_base.specs.Text.{Lines, lines_of}
use Rattle.ttp_world.specs.declared.medl.Medl.{Medl}
use Rattle.ttp_world.specs.declared.node.Chosen.{Chosen}
use Rattle.ttp_world.specs.declared.node.Entry.{Entry}
use Rattle.ttp_world.specs.declared.node.Entry.TheVariants as entry
use Rattle.ttp_world.specs.declared.script.Script.{Script}
use Rattle.ttp_world.specs.Diary.{History, entry_of}
use Rattle.ttp_world.specs.Legal.{is_legal_message, IsLegal}
use Rattle.ttp_world.specs.Medl.{IsValid}
use Rattle.ttp_world.specs.Outgoing.{nothing_chosen, message_chosen}
use Rattle.ttp_world.specs.Script.{IsValidScript}
use Rattle.ttp_world.specs.Trace.{node_line_of, trace_lines}
use Rattle.ttp_world.specs.World.{SlotNumbers, Numbers, chosen_of, frames_in, is_loaded}
use Rattle.ttp_world.specs.World.{messages_chosen, row_in, slot_after, world}
use Rattle.ttp_world.specs.Messages.{message_of}
use Rattle.ttp_world.proofs.Carried.{AreOfHosts, frames_in-same, message_of-row_in, messages_of-row_in, row_in-same}
use Rattle.ttp_world.proofs.LegalShapes.{legal-message, legal-older, legal-shapes}
use Rattle.ttp_world.proofs.Worlds.{length-world, row_of_world}
use Rattle.controller.specs.Passes.{AreChosen, CarriesFrames, IsOutcomeOf}
use Rattle.controller.specs.PlantStands.{PlantStandsFor, MayStep, IsStep, Steps, outcome_at}
use Rattle.controller.specs.PlantView.{PlantView}
use Rattle.trace_run.proofs.FromBelow.{chosen-step, lines_in, length-legal_slot, legal-small, line-names, node-at}
use Rattle.trace_run.proofs.FromBelow.{taken-named, chosen-of_hosts, chosen-sizes, taken-legal, has-chosen, trace-cut}
use Rattle.trace_run.proofs.FromBelow.{legal-drop as legal-first}
use Rattle.trace_check.specs.declared.outgoing.Outgoing.{Outgoing}
use Rattle.trace_check.specs.Following.{lines_of_slot}
use Rattle.trace_check.specs.Outgoing.{Chooses, HoldsNewest, number_by_text, number_by_line}
use Rattle.trace_run.specs.declared.run.TraceRun.{TraceRun}
use Rattle.trace_run.specs.Run.{first_numbers, first_lines, HasMade, IsTraceAt, IsMade}

-- The numbers of the first slots.

nothing_told : SlotNumbers
nothing_told = record { sent = []; read = [] }

module _ (script : Script) (whole : Numbers) (slot : ℕ) (count : length whole ≡ script.slots) where
  pub first-length : slot ≤ script.slots → length (first_numbers script whole slot) ≡ slot
  first-length few = length-drop (script.slots - slot) whole ∙ omega (arith, few, count)

  pub first-next : slot < script.slots
      → (new : SlotNumbers) × (first_numbers script whole (slot + 1) ≡ new ∷ first_numbers script whole slot)
  first-next less =
      let later = script.slots - (slot + 1) in
      let one : later + 1 ≡ script.slots - slot = omega (arith, less) in (
        get_or whole later nothing_told,
        drop_more whole later nothing_told (omega (arith, less, count))
            ∙ ap (λ (n : ℕ). get_or whole later nothing_told ∷ drop n whole) one,
      )

-- The slot that was made by some legal messages.

module _ (list : Medl) (script : Script) (valid : IsValid list) (valid_script : IsValidScript list script)
    (numbers : Numbers) (legal : IsLegal list script numbers) (o : Outgoing) (text : List ℕ)
    (chooses : Chooses o list script (length numbers) (number_by_text list script (length numbers) text))
    (chosen : List Chosen) (is : chosen ≡ o.chosen.items) where
  abbrev history : History
  history = world list script numbers

  abbrev row : List Entry
  row = row_in (slot_after list script (world list script numbers)) chosen

  number_legal : (k : ℕ)
      → IsTrue (is_legal_message list script (length numbers) k
      (Some (number_by_text list script (length numbers) text k)))
  number_legal k = taken-legal list script (length numbers) k (number_by_line (get_or (lines_of text) k []))

  chosen_at : (k : ℕ) → k < length list.slots
      → chosen_of chosen k
      ≡ message_chosen list script (length numbers) k (Some (number_by_text list script (length numbers) text k))
  chosen_at k node = ap (λ (cs : List Chosen). chosen_of cs k) is ∙ chooses.chosen k node

  of_hosts : AreOfHosts (slot_after list script (world list script numbers)) chosen
  of_hosts = record {
    message = chosen-of_hosts list script valid valid_script numbers legal chosen
        (number_by_text list script (length numbers) text) number_legal chosen_at;
  }

  pub may-step : (plant : PlantView) → plant.list ≡ list → PlantStandsFor plant script (world list script numbers)
      → MayStep plant script chosen
  may-step plant same stands =
      chosen-step chosen (subst IsValid (sym same) valid) stands
      (subst (λ (l : Medl). AreChosen (slot_after l script (world list script numbers)) chosen) (sym same)
      (chosen-sizes list script valid valid_script numbers legal chosen
      (number_by_text list script (length numbers) text) number_legal chosen_at))

  -- the slot that the plant has made
  pub has-made : (plant : PlantView) → plant.list ≡ list → IsStep plant script (world list script numbers) chosen
      → HasMade plant chosen list script (row_in (slot_after list script (world list script numbers)) chosen)
      (world list script numbers)
  has-made plant same step = record {
    same = same;
    stands = subst (λ (l : Medl).
        PlantStandsFor plant script (row_in (slot_after l script history) chosen ∷ history)) same
        step.stands;
    count = ap length is ∙ chooses.nodes;
    follows = refl;
    told = λ k node loaded.
        (messages_of-row_in (slot_after list script (world list script numbers)) chosen of_hosts).same k node loaded;
    sizes = chosen-sizes list script valid valid_script numbers legal chosen
        (number_by_text list script (length numbers) text) number_legal chosen_at;
    outcomes = λ k node.
        subst (λ (l : Medl). IsOutcomeOf l script history chosen k (outcome_at plant k)) same
        (step.left k (subst (λ (l : Medl). k < length l.slots) (sym same) node));
    carries = subst (λ frames. CarriesFrames (slot_after list script (world list script numbers)) frames plant.carried)
        (frames_in-same (slot_after list script (world list script numbers)) chosen _
        (messages_of-row_in (slot_after list script (world list script numbers)) chosen of_hosts))
        (subst (λ (l : Medl). CarriesFrames (slot_after l script history)
        (frames_in (slot_after l script history) chosen)
        plant.carried) same step.carries);
  }

  -- Where the text begins with the lines of the slot by legal numbers, it is the slot of these numbers.
  module _ (new : SlotNumbers) (later : Lines) (legal_new : IsLegal list script (new ∷ numbers))
      (inside : length numbers < script.slots)
      (lines : lines_of text ≡ lines_of_slot list script new numbers ++ later) where
    row_new : List Entry
    row_new = row_of_world list script new numbers

    chosen_new : List Chosen
    chosen_new = messages_chosen list script (length numbers) new.sent

    -- for a node whose frame carries a message
    same-chosen : (k : ℕ) → k < length list.slots
        → is_loaded (slot_after list script (world list script numbers)) k ≡ true
        → chosen_of chosen_new k ≡ chosen_of chosen k
    unfolding row_new chosen_new
    same-chosen k node loaded =
        let i = (chosen_of chosen_new k).number in
        let s = slot_after list script history in
        let told : message_of (entry_of row_new k) ≡ Some i =
        message_of-row_in s chosen_new k node ∙ ap (λ (l : Bool). if l then Some i else None) loaded in
        let ok : IsTrue (is_legal_message list script (length numbers) k (Some i)) =
        subst (λ (m : Option ℕ). IsTrue (is_legal_message list script (length numbers) k m)) told
        (legal-message list script new numbers k legal_new node) in
        let many = length-legal_slot list script new numbers legal_new in
        let line : get_or (lines_of text) k [] ≡ node_line_of list script row_new history k =
        ap (λ (ls : Lines). get_or ls k []) lines
        ∙ get_or_append_left (lines_of_slot list script new numbers) later [] k (omega (arith, many, node))
        ∙ node-at list script new numbers k node in
        let named : number_by_line (node_line_of list script row_new history k) ≡ Some i =
        line-names list script row_new history k i told
        (legal-small list script (length numbers) k i valid valid_script inside ok) in
        let taken : number_by_text list script (length numbers) text k ≡ i =
        taken-named list script (length numbers) k i text (node_line_of list script row_new history k) line named ok in
        let sent : get_or new.sent k None ≡ Some i =
        ap (λ (ns : List (Option ℕ)). get_or ns k None) (legal-shapes list script (new ∷ numbers) legal_new).0.sent
        ∙ get_or-map message_of row_new k entry.Off ∙ told in
        get_or-map-range_with_len (λ j. message_chosen list script (length numbers) j (get_or new.sent j None)) 0
        (length list.slots) k k nothing_chosen node (omega arith)
        ∙ ap (message_chosen list script (length numbers) k) (sent ∙ ap Some (sym taken))
        ∙ sym (chosen_at k node)

    pub same-row : row_in (slot_after list script (world list script numbers)) chosen
        ≡ row_of_world list script new numbers
    unfolding row_new chosen_new
    same-row =
        sym (row_in-same (slot_after list script history) chosen_new chosen (record { same = same-chosen }))

-- The text.

module _ (list : Medl) (script : Script) (whole : Numbers) (slot : ℕ) (new : SlotNumbers)
    (next : first_numbers script whole (slot + 1) ≡ new ∷ first_numbers script whole slot) where
  older : Numbers
  older = first_numbers script whole slot

  -- what is left of the trace begins with the slot's lines
  pub slot-lines : (text : List ℕ)
      → lines_of text
      ≡ drop (length (first_lines list script (first_numbers script whole slot))) (trace_lines list script whole)
      → (later : Lines)
      × (lines_of text ≡ lines_of_slot list script new (first_numbers script whole slot) ++ later)
  unfolding older
  slot-lines text left =
      let cut = trace-cut list script whole (script.slots - (slot + 1)) new older next in
      let front = first_lines list script older in (
        cut.0,
        left ∙ ap (drop (length front)) cut.1
            ∙ drop_at front (lines_of_slot list script new older ++ cut.0) (length front) refl,
      )

  -- and behind them with those of the next
  pub left-next : (text rest : List ℕ) → IsLegal list script (new ∷ first_numbers script whole slot)
      → length (first_numbers script whole slot) ≡ slot
      → lines_of text
      ≡ drop (length (first_lines list script (first_numbers script whole slot))) (trace_lines list script whole)
      → lines_of rest ≡ drop (lines_in list script slot) (lines_of text)
      → lines_of rest
      ≡ drop (length (first_lines list script (first_numbers script whole (slot + 1)))) (trace_lines list script whole)
  unfolding older
  left-next text rest legal long left skipped =
      let front = first_lines list script older in
      let here = lines_of_slot list script new older in
      let many : length here ≡ lines_in list script slot =
      length-legal_slot list script new older legal ∙ ap (lines_in list script) long in
      let whole_front : length (first_lines list script (new ∷ older)) ≡ length front + length here =
      length-append front here in
      skipped ∙ ap (drop (lines_in list script slot)) left
      ∙ drop-drop (lines_in list script slot) (length front) (trace_lines list script whole)
      ∙ ap (λ n. drop n (trace_lines list script whole))
      (omega (arith, many, whole_front)
      ∙ ap (λ (ns : Numbers). length (first_lines list script ns)) (sym next))

-- A step.

module _ (list : Medl) (script : Script) (run next_run : TraceRun) (whole : Numbers) (slot : ℕ)
    (less : slot < script.slots) where
  older_numbers : Numbers
  older_numbers = first_numbers script whole slot

  pub made-next : (text : List ℕ) → IsValid list → IsValidScript list script → IsTraceAt run list script whole slot text
      → Chooses next_run.outgoing list script slot (number_by_text list script slot text)
      → next_run.plant.list ≡ run.plant.list
      → Steps run.plant next_run.plant script next_run.outgoing.chosen.items
      → IsMade next_run list script whole slot text
  unfolding older_numbers
  made-next text valid valid_script at chooses same steps =
      let older = older_numbers in
      let o = next_run.outgoing in
      let long = first-length script whole slot at.left.legal.count (omega (arith, less)) in
      let next = first-next script whole slot at.left.legal.count less in
      let new = next.0 in
      let legal_new : IsLegal list script (new ∷ older) =
      subst (IsLegal list script) next.1
      (legal-first list script whole (script.slots - (slot + 1)) at.left.legal.legal) in
      let legal = legal-older list script new older legal_new in
      let chooses_here : Chooses o list script (length older) (number_by_text list script (length older) text) =
      subst (λ n. Chooses o list script n (number_by_text list script n text)) (sym long) chooses in
      let lines = slot-lines list script whole slot new next.1 text at.left.lines in
      let made = has-made list script valid valid_script older legal o text chooses_here o.chosen.items refl
      next_run.plant (same ∙ at.stands.same) (steps (world list script older) at.stands.plant) in
      let row_is = same-row list script valid valid_script older legal o text
      chooses_here o.chosen.items refl new lines.0
      legal_new (omega (arith, less, long)) lines.1 in
      record {
        left = at.left;
        row = row_of_world list script new older;
        next = ap (world list script) next.1;
        long = length-world list script older ∙ long;
        made = subst (λ (row : List Entry). HasMade next_run.plant o.chosen.items list script row
            (world list script older)) row_is made;
        chosen = has-chosen o list script slot text chooses;
      }

  pub at-passed : (text rest : List ℕ) → IsMade run list script whole slot text → next_run.plant ≡ run.plant
      → HoldsNewest next_run.outgoing list script (slot + 1)
      → lines_of rest ≡ drop (lines_in list script slot) (lines_of text)
      → IsTraceAt next_run list script whole (slot + 1) rest
  unfolding older_numbers
  at-passed text rest made same holds skipped =
      let long = first-length script whole slot made.left.legal.count (omega (arith, less)) in
      let long_next = first-length script whole (slot + 1) made.left.legal.count (omega (arith, less)) in
      let next = first-next script whole slot made.left.legal.count less in
      let legal_new : IsLegal list script (next.0 ∷ older_numbers) =
      subst (IsLegal list script) next.1
      (legal-first list script whole (script.slots - (slot + 1)) made.left.legal.legal) in
      record {
        left = record {
          legal = made.left.legal;
          lines = left-next list script whole slot next.0 next.1 text rest legal_new long made.left.lines skipped;
        };
        stands = record {
          same = ap (λ (p : PlantView). p.list) same ∙ made.made.same;
          plant = subst (λ (p : PlantView).
              PlantStandsFor p script (world list script (first_numbers script whole (slot + 1))))
              (sym same) (subst (PlantStandsFor run.plant script) (sym made.next) made.made.stands);
          outgoing = subst (HoldsNewest next_run.outgoing list script) (sym long_next) holds;
        };
      }
