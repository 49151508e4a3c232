-- A generated script is written as a text that is read as this script.
use Rattle.std.proofs.Common.{◌≡◌, ℕ, zero, suc, ◌+◌, ◌<◌, ◌≤◌, ◌==◌, ◌&&◌, ℤ, pos, true, List, [], ◌∷◌, ◌++◌, map}
use Rattle.std.proofs.Common.{length, count_by, Option, Some, None, unwrap_or, Ok, refl, ap, ◌∙◌, sym, subst, arith}
use Rattle.std.proofs.Common.{replicate, codes, decimal, zero-add}
use Rattle.std.specs.Prelude.{slice_get}
use Rattle.std.specs.List.{AllByRecursion, concat}
use Rattle.std.proofs.lemmas.Bool.Decides.{nat_tests}
use Rattle.std.proofs.lemmas.List.{append_assoc, append-nil, length-replicate, get_or-replicate}
use Rattle.std.proofs.lemmas.List.Elements.{recursion_from_All}
use Rattle.std.proofs.lemmas.List.FromFn.{fill_by_all, get_or-map-range_with_len, length-map-range_with_len}
use Rattle.ttp_base.specs.NodeSet.{below}
use Rattle.ttp_world.specs.declared.medl.Medl.{Medl}
use Rattle.ttp_world.specs.declared.script.Channels.{Channels}
use Rattle.ttp_world.specs.declared.script.Event.{Event}
use Rattle.ttp_world.specs.declared.script.Event.TheVariants as event
use Rattle.ttp_world.specs.declared.script.Fault.{Fault}
use Rattle.ttp_world.specs.declared.script.Script.{Script}
use Rattle.ttp_world.specs.declared.script.Source.TheVariants as source
use Rattle.ttp_world.specs.declared.script.TheConstants.{SLOT_LIMIT, DRIFT_LIMIT}
use Rattle.ttp_world.specs.Medl.{IsValid}
use Rattle.ttp_world.specs.Script.{IsValidEvent, IsWithinSpan, on_slot, drift_of}
use Rattle.script_gen.specs.Generator.{both_channels, drift_by, all_events, generated}
use Rattle.ttp_world.proofs.Lists.{nodes-most}
use Rattle.script_laws.proofs.FromBelow.{all-valid, lines_of-empty, count_one}
use Rattle.script_lines.specs.ScriptLines.{event_words, event_line, slots_line, script_lines}
use Rattle.script_lines.specs.ScriptLines.{all_on_lines, all_drift_lines}
use Rattle.script_text.specs.Faults.{slots_of, stated_slots, on_of, drift_stated, events_of, is_write_at}
use Rattle.script_text.specs.Lines.{lines_of_file}
use Rattle.script_text.specs.ScriptFile.{script_of, lines_script, script_faults, statements_of, stated_script}
use Rattle.script_text.specs.Statement.{Statement, says_slots, says_event}
use Rattle.script_laws.proofs.Counts.{writes_at, messages-counted}
use Rattle.script_laws.proofs.Events.{Stands, error_read, send_read, receive_read, write_read, status_read, node_read}
use Rattle.script_laws.proofs.Heads.{slots_read}
use Rattle.script_laws.proofs.Made.{IsMade, AreMade, all-made}
use Rattle.script_laws.proofs.Nodes.{ons, ons-before, on-reads, drifts, drifts-slots}
use Rattle.script_laws.proofs.Nodes.{drifts-on, drifts-events, drifts-before}
use Rattle.script_laws.proofs.Nodes.{drifts-writes, drift-stands, drift-reads}
use Rattle.script_laws.proofs.Reading.{Reads, reads_none, reads_more, reads_then}
use Rattle.script_laws.proofs.Statements.{IsLine}

-- The events, one after another.

-- what is stated once their lines are read
abbrev said : List Statement → List Event → List Statement
said before [] = before
said before (e ∷ events) = said (says_event e ∷ before) events

said-slots : (before : List Statement) (events : List Event) → slots_of (said before events) ≡ slots_of before
said-slots before [] = refl
said-slots before (e ∷ events) = said-slots (says_event e ∷ before) events

said-on : (before : List Statement) (events : List Event) (j : ℕ) → on_of (said before events) j ≡ on_of before j
said-on before [] j = refl
said-on before (e ∷ events) j = said-on (says_event e ∷ before) events j

said-drift : (before : List Statement) (events : List Event) (j : ℕ)
    → drift_stated (said before events) j ≡ drift_stated before j
said-drift before [] j = refl
said-drift before (e ∷ events) j = said-drift (says_event e ∷ before) events j

said-events : (before : List Statement) (events : List Event)
    → events_of (said before events) ≡ events_of before ++ events
said-events before [] = sym (append-nil (events_of before))
said-events before (e ∷ events) =
    said-events (says_event e ∷ before) events ∙ append_assoc (events_of before) (e ∷ []) events

-- no ring is written too often, by the lines before and by these events
abbrev AreFew : Medl → List Statement → List Event → Type 0
AreFew list before events =
    (k t : ℕ) → count_by (is_write_at k t) before + count_by (writes_at k t) events < list.buffers

module _ (list : Medl) (script : Script) where
  one-read : (before : List Statement) (e : Event) (events : List Event) → Stands list script before
      → IsValidEvent list script e → IsMade e → AreFew list before (e ∷ events)
      → IsLine list before (event_words e) (says_event e)
  one-read before (event.Error node value from to) events stands valid made few =
      error_read list script before stands node value from to valid
  one-read before (event.Send node channels kind from to) events stands valid made few =
      subst (λ (c : Channels). IsLine list before (event_words (event.Send node c kind from to))
      (says_event (event.Send node c kind from to))) (sym made.0)
      (subst (λ (f : Fault). IsLine list before (event_words (event.Send node both_channels f from to))
      (says_event (event.Send node both_channels f from to))) (sym made.1)
      (send_read list script before stands node from to valid))
  one-read before (event.Receive node channels kind from to) events stands valid made few =
      subst (λ (c : Channels). IsLine list before (event_words (event.Receive node c kind from to))
      (says_event (event.Receive node c kind from to))) (sym made.0)
      (subst (λ (f : Fault). IsLine list before (event_words (event.Receive node both_channels f from to))
      (says_event (event.Receive node both_channels f from to))) (sym made.1)
      (receive_read list script before stands node from to valid))
  one-read before (event.Write node slot payload) events stands valid made few =
      let same : ((node == node) && (slot == slot)) ≡ true = grind (arith, nat_tests) in
      write_read list script before stands node slot payload valid made
      (omega (arith, few node slot, count_one (writes_at node slot) (event.Write node slot payload) events true same))
  one-read before (event.Read node slot source.Status) events stands valid made few =
      status_read list script before stands node slot valid
  one-read before (event.Read node slot (source.Node k)) events stands valid made few =
      node_read list script before stands node slot k valid
  one-read before (event.Flip node channels bit slot) events stands valid made few = absurd made
  one-read before e events stands valid made few = absurd made

  events-read : (before : List Statement) (events : List Event) → Stands list script before
      → AllByRecursion (IsValidEvent list script) events → AreMade events → AreFew list before events
      → Reads list before (map event_line events) (said before events)
  events-read before [] stands valid made few = reads_none list before
  events-read before (e ∷ events) stands valid made few =
      reads_more list before (said before (e ∷ events)) (event_words e) (map event_line events) (says_event e)
      (one-read before e events stands valid.0 made.0 few)
      (events-read (says_event e ∷ before) events
      (record { slots = stands.slots; few = stands.few; nodes = stands.nodes }) valid.1 made.1
      (λ k t.
      omega (
        arith,
        few k t,
        count_one (writes_at k t) e events (writes_at k t e) refl,
        count_one (is_write_at k t) (says_event e) before (writes_at k t e) refl,
      )))

-- The whole.

slice_replicate : (n k : ℕ) → k < n → slice_get {X = Option ℕ} (replicate n (Some 0)) k ≡ Some (Some 0)
slice_replicate zero k less = absurd (omega (arith, less))
slice_replicate (suc n) zero less = refl
slice_replicate (suc n) (suc k) less = slice_replicate n k (omega (arith, less))

end_of : (list : Medl) (after : List Statement) (slots m : ℕ) → slots_of after ≡ Some slots
    → script_faults list m after (lines_of_file []) ≡ []
end_of list after slots m is = rw (lines_of-empty, is) refl

module _ (list : Medl) (slots number : ℕ) (valid : IsValid list) (some : 1 ≤ slots) (few : slots ≤ SLOT_LIMIT) where
  abbrev n : ℕ
  n = length list.slots

  abbrev script : Script
  script = generated list slots number

  abbrev events : List Event
  events = all_events list slots number

  abbrev heads : List Statement
  heads = drifts slots n (drift_by list number) n

  abbrev all : List Statement
  all = said heads events

  on-is : (j : ℕ) → j < n → on_slot script j ≡ Some 0
  unfolding generated
  on-is j less = ap (λ (o : Option (Option ℕ)). unwrap_or o None) (slice_replicate n j less)

  drift-is : (j : ℕ) → j < n → drift_of script j ≡ drift_by list number j
  unfolding generated
  drift-is j less = get_or-map-range_with_len (drift_by list number) 0 n j j (pos 0) less (zero-add j)

  whole : Reads list [] (script_lines script) all
  unfolding generated script_lines slots_line
  whole =
      let right = all-valid list slots number valid some few in
      let nodes : n ≤ 24 = nodes-most list valid in
      let stands = drift-stands list script few nodes n (drift_by list number) n in
      reads_more list [] all (codes "slots " ++ decimal slots) _ (says_slots slots) (slots_read list slots some few)
      (reads_then list (says_slots slots ∷ []) (ons slots n) all (all_on_lines script) _
      (subst (λ (m : ℕ). Reads list (says_slots slots ∷ []) (all_on_lines script) (ons slots m)) right.on_count
      (on-reads list script few nodes some (length script.on) (omega (arith, right.on_count))
      (λ j less. on-is j (omega (arith, less, right.on_count)))))
      (reads_then list (ons slots n) heads all (all_drift_lines script) _
      (subst (λ (m : ℕ). Reads list (ons slots n) (all_drift_lines script) (drifts slots n (drift_by list number) m))
      right.drift_count
      (drift-reads list script few nodes n (drift_by list number)
      (length script.drift) (omega (arith, right.drift_count))
      (λ j less. drift-is j (omega (arith, less, right.drift_count)))
      (λ j less. subst (IsWithinSpan DRIFT_LIMIT) (drift-is j (omega (arith, less, right.drift_count)))
      (right.drift j (pos 0) less))))
      (events-read list script heads events stands
      (recursion_from_All (IsValidEvent list script) events right.events) (all-made list slots number)
      (λ k t. omega (
        arith,
        right.writes k t,
        messages-counted k t events,
        drifts-writes
            slots n (drift_by list number) n k t,
      )))))

  on-all : (j : ℕ) → j < n → on_of all j ≡ Some 0
  on-all j less = said-on heads events j ∙ drifts-on slots n (drift_by list number) n j ∙ ons-before slots n j less

  drift-all : (j : ℕ) → j < n → unwrap_or (drift_stated all j) (pos 0) ≡ drift_by list number j
  drift-all j less =
      ap (λ (o : Option ℤ). unwrap_or o (pos 0)) (said-drift heads events j)
      ∙ drifts-before slots n (drift_by list number) n j less

  stated : slots_of all ≡ Some slots
  stated = said-slots heads events ∙ drifts-slots slots n (drift_by list number) n

  on-same : map (on_of all) (below n) ≡ replicate n (Some 0)
  on-same =
      sym (fill_by_all (on_of all) (replicate n (Some 0)) n None (length-replicate n (Some 0))
      (λ j less. get_or-replicate n j (Some 0) None less ∙ sym (on-all j less)))

  drift-same : map (λ j. unwrap_or (drift_stated all j) (pos 0)) (below n) ≡ map (drift_by list number) (below n)
  drift-same =
      sym (fill_by_all (λ j. unwrap_or (drift_stated all j) (pos 0)) (map (drift_by list number) (below n)) n (pos 0)
      (length-map-range_with_len (drift_by list number) 0 n)
      (λ j less.
      get_or-map-range_with_len (drift_by list number) 0 n j j (pos 0) less (zero-add j) ∙ sym (drift-all j less)))

  events-same : events_of all ≡ events
  events-same =
      said-events heads events
      ∙ ap (λ (before : List Event). before ++ events) (drifts-events slots n (drift_by list number) n)

  same-script : stated_script list all ≡ script
  unfolding generated stated_script
  same-script =
      let count : stated_slots all ≡ slots = ap (λ (o : Option ℕ). unwrap_or o 0) stated in
      λ i. record { slots = count i; on = on-same i; drift = drift-same i; events = events-same i }

  bytes-are : concat (script_lines script) ++ [] ≡ concat (script_lines script)
  bytes-are = append-nil (concat (script_lines script))

  pub read_back-law : script_of list (concat (script_lines script)) ≡ Ok script
  unfolding script_of lines_script
  read_back-law =
      let none : script_faults list 1 [] (lines_of_file (concat (script_lines script))) ≡ [] =
      ap (λ (b : List ℕ). script_faults list 1 [] (lines_of_file b)) (sym bytes-are)
      ∙ whole.faults 1 [] (λ m. end_of list all slots m stated) in
      let says : statements_of [] (lines_of_file (concat (script_lines script))) ≡ all =
      ap (λ (b : List ℕ). statements_of [] (lines_of_file b)) (sym bytes-are) ∙ whole.said []
      ∙ ap (λ (ls : List (List ℕ)). statements_of all ls) lines_of-empty in
      rw (none, says, same-script) refl
