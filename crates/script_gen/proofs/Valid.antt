-- A script of the generator is valid.
use Rattle.script_gen.proofs.Words.{◌≡◌, ℕ, ◌+◌, ◌*◌, ◌/◌, ◌%◌, ◌<◌, ◌≤◌, ℤ, pos, neg_ℤ, ◌≤ℤ◌, Bool, true, false, cond}
use Rattle.script_gen.proofs.Words.{◌&&◌, List, [], ◌∷◌, ◌++◌, length, replicate, get_or, Some, None, refl, ap, ◌∙◌}
use Rattle.script_gen.proofs.Words.{inl, inr, mod-lt, length-append, arith, ◌==◌, All, nat_le, nat_lt, AllByRecursion}
use Rattle.script_gen.proofs.Words.{filter_map, flat_map, leb-true, le-leb, ne_eqb, eq-eqb, cases_lt, ints, append-nil}
use Rattle.script_gen.proofs.Words.{filter_map-append, below, map_each-below, Medl, Event, Script, EVENT_LIMIT}
use Rattle.script_gen.proofs.Words.{IsBounded, IsValid, plan_at, IsValidScript, drawn, drift_by, error_by, most_faults}
use Rattle.script_gen.proofs.Words.{fault_slot_of, fault_by, fault_within, has_payload, write_by, reads_by}
use Rattle.script_gen.proofs.Words.{host_events_in, error_events, fault_events, host_events, all_events, generated}
use Rattle.std.proofs.lemmas.Bool.{lt-leb}
use Rattle.std.proofs.lemmas.List.{length-replicate}
use Rattle.std.proofs.lemmas.List.Elements.{All-from_recursion, All-replicate}
use Rattle.std.proofs.lemmas.List.FromFn.{length-map-range_with_len}
use Rattle.std.proofs.lemmas.List.Sums.{count_by-le-length}
use Rattle.ttp_world.specs.declared.script.Event.TheVariants as event
use Rattle.ttp_world.specs.declared.script.Source.TheVariants as source
use Rattle.ttp_world.specs.declared.script.TheConstants.{SLOT_LIMIT, DRIFT_LIMIT}
use Rattle.ttp_world.specs.declared.script.TheConstants.{ERROR_LIMIT}
use Rattle.ttp_world.specs.Events.{IsWithinSpan}
use Rattle.ttp_world.specs.Script.{write_in, is_host_event, payload_of_host, writes_in, messages_written}
use Rattle.ttp_world.specs.Script.{IsValidEvent, IsWithinRun}
use Rattle.ttp_world.proofs.Lists.{nodes-most}
use Rattle.script_gen.proofs.DrawnClocks.{spread-within}
use Rattle.script_gen.proofs.Parts.{IsGenerated, generated-is, each-fault, each-event}
use Rattle.script_gen.proofs.Turns.{turns-differ}
use Rattle.script_gen.proofs.Ranges.{filter_map-flat_map, flat_map-most, length-flat_map}
use Rattle.ttp_world.proofs.LineLists.{filter_map-none as nothing-each}
use Rattle.ttp_world.proofs.WorldFacts.{event-bounded}
use Rattle.ttp_world.proofs.ListFacts.{filter_map-few as length-filter_map}

-- Each event is valid.

span-of : (high z : ℤ) (narrow limit : ℕ) → high ≤ℤ pos narrow → narrow ≤ limit → neg_ℤ high ≤ℤ z → z ≤ℤ high
    → IsWithinSpan limit z
span-of high z narrow limit to fits above under = (omega (arith, ints), omega (arith, ints))

events-valid : (list : Medl) (number : ℕ) (script : Script) → IsValid list → 1 ≤ script.slots
    → AllByRecursion (IsValidEvent list script) (all_events list script.slots number)
events-valid list number script valid some =
    let n = length list.slots in
    let slots = script.slots in
    let node = λ (k : ℕ). let less : k % n < n = mod-lt k (omega (arith, valid.count)) in less in
    each-event (IsValidEvent list script) list slots number
    (λ k less.
    let within = spread-within list.error (drawn number (2 * k + 1)) valid.error.0 in (
      less,
      span-of list.error _ 1000 ERROR_LIMIT valid.error.1 (omega arith) within.0 within.1,
      (omega arith, omega arith),
    ))
    (record {
      sends = λ j less within. (node _, (omega arith, within));
      receives = λ j less within. (node _, (omega arith, within));
    })
    (record {
      writes = λ slot less loaded. (node slot, less, leb-true 1 _ loaded, length-replicate _ (slot % 256));
      statuses = λ slot less. (node (slot + 1), less, tt);
      reads = λ slot less loaded.
          let other = turns-differ n slot (slot + 1) (omega arith) (omega (arith, valid.count)) in
          (node (slot + 1), less, (node slot, leb-true 1 _ loaded, other));
    })

-- How many events there are.

length-one : (b : Bool) (e : Event) → length (cond b (e ∷ []) []) ≤ 1
length-one true e = omega arith
length-one false e = omega arith

length-hosts : (list : Medl) (slot : ℕ) → length (host_events_in list slot) ≤ 3
length-hosts list slot =
    let n = length list.slots in
    let write = write_by list slot (slot % n) in
    let reads = reads_by list slot ((slot + 1) % n) (slot % n) in
    let first : length write ≤ 1 = length-one (nat_le 2 list.buffers && has_payload list (slot % n)) _ in
    let more : length (cond (has_payload list (slot % n))
    (event.Read ((slot + 1) % n) slot (source.Node (slot % n)) ∷ []) []) ≤ 1 =
    length-one (has_payload list (slot % n)) _ in
    omega (arith, length-append write reads, first, more)

few-events : (list : Medl) (slots number : ℕ) → IsValid list → slots ≤ SLOT_LIMIT
    → length (all_events list slots number) ≤ 60100
few-events list slots number valid few =
    let n = length list.slots in
    let errors = error_events list slots number in
    let faults = fault_events list slots number in
    let hosts = host_events list slots in
    let nodes : n ≤ 24 = nodes-most list valid in
    let error_count : length errors ≡ n = length-map-range_with_len (error_by list slots number) 0 n in
    let fault_count : length faults ≤ most_faults list * 1 =
    length-flat_map (fault_within list slots number) 1 (most_faults list)
    (λ j. length-one (nat_lt (fault_slot_of list j) slots) (fault_by list j (drawn number (2 * n + j)))) in
    let most : most_faults list ≤ n / 2 = omega arith in
    let host_count : length hosts ≤ slots * 3 = length-flat_map (host_events_in list) 3 slots (length-hosts list) in
    omega (arith, length-append errors (faults ++ hosts), length-append faults hosts)

-- What hosts write in a slot: its sender's host alone, and where there are two buffers or more.

abbrev room : Medl → ℕ
room list = cond (nat_le 2 list.buffers) 1 0

written-here : (b : Bool) (slot k : ℕ) (payload : List ℕ) (c : Bool)
    → length (filter_map (write_in slot) (cond (b && c) (event.Write k slot payload ∷ []) [])) ≤ cond b 1 0
written-here true slot k payload true =
    let here : (slot == slot) ≡ true = eq-eqb slot slot refl in rw here (omega arith)
written-here true slot k payload false = omega arith
written-here false slot k payload c = omega arith

written-elsewhere : (b : Bool) (at slot k : ℕ) (payload : List ℕ) → (at ≡ slot → ⊥)
    → filter_map (write_in slot) (cond b (event.Write k at payload ∷ []) []) ≡ []
written-elsewhere true at slot k payload other =
    let there : (at == slot) ≡ false = ne_eqb at slot other in rw there refl
written-elsewhere false at slot k payload other = refl

reads-write-nothing : (list : Medl) (slot at host k : ℕ) → filter_map (write_in slot) (reads_by list at host k) ≡ []
reads-write-nothing list slot at host k =
    nothing-each (write_in slot) (reads_by list at host k) (refl, rest (has_payload list k))
  where
    rest : (b : Bool)
        → AllByRecursion (λ e. write_in slot e ≡ None) (cond b (event.Read host at (source.Node k) ∷ []) [])
    rest true = (refl, tt)
    rest false = tt

written-by : (list : Medl) (slot at : ℕ)
    → filter_map (write_in slot) (host_events_in list at)
    ≡ filter_map (write_in slot) (write_by list at (at % length list.slots))
written-by list slot at =
    let n = length list.slots in
    filter_map-append (write_in slot) (write_by list at (at % n)) (reads_by list at ((at + 1) % n) (at % n))
    ∙ ap (λ rest. filter_map (write_in slot) (write_by list at (at % n)) ++ rest)
    (reads-write-nothing list slot at ((at + 1) % n) (at % n))
    ∙ append-nil (filter_map (write_in slot) (write_by list at (at % n)))

few-written : (list : Medl) (slots slot : ℕ)
    → length (filter_map (write_in slot) (host_events list slots)) ≤ room list
few-written list slots slot =
    let n = length list.slots in
    let each = λ (at : ℕ). filter_map (write_in slot) (host_events_in list at) in
    let whole : filter_map (write_in slot) (host_events list slots) ≡ flat_map each (below slots) =
    filter_map-flat_map (write_in slot) (host_events_in list) (below slots) in
    let here : length (each slot) ≤ room list =
    let few = written-here (nat_le 2 list.buffers) slot (slot % n)
    (replicate (plan_at list (slot % n)).payload (slot % 256)) (has_payload list (slot % n)) in
    omega (arith, ap length (written-by list slot slot), few) in
    let most =
    flat_map-most each slots slot (room list)
    (λ at other. written-by list slot at
    ∙ written-elsewhere (nat_le 2 list.buffers && has_payload list (at % n)) at slot (at % n)
    (replicate (plan_at list (at % n)).payload (at % 256)) other) here in
    omega (arith, ap length whole, most)

room-below : (buffers : ℕ) → 1 ≤ buffers → cond (nat_le 2 buffers) 1 0 < buffers
room-below buffers some = elim (cases_lt 1 buffers) [
  | inl more ↦ let two : nat_le 2 buffers ≡ true = le-leb 2 buffers (omega arith) in rw two (omega arith)
  | inr one ↦ let two : nat_le 2 buffers ≡ false = lt-leb 2 buffers (omega arith) in rw two (omega arith)
]

few-messages : (list : Medl) (number : ℕ) (script : Script) (k slot : ℕ) → IsValid list
    → IsGenerated list number script
    → length (messages_written script k slot) < list.buffers
few-messages list number script k slot valid is =
    let slots = script.slots in
    let errors = error_events list slots number in
    let faults = fault_events list slots number in
    let hosts = host_events list slots in
    let none : filter_map (write_in slot) errors ≡ [] =
    nothing-each (write_in slot) errors
    (map_each-below (λ e. write_in slot e ≡ None) (error_by list slots number) (length list.slots) (λ j less. refl)) in
    let none_more : filter_map (write_in slot) faults ≡ [] =
    nothing-each (write_in slot) faults
    (each-fault (λ e. write_in slot e ≡ None) list slots number
    (record { sends = λ j less within. refl; receives = λ j less within. refl })) in
    let written : writes_in script slot ≡ filter_map (write_in slot) hosts =
    ap (filter_map (write_in slot)) is.events
    ∙ filter_map-append (write_in slot) errors (faults ++ hosts)
    ∙ ap (λ ws. ws ++ filter_map (write_in slot) (faults ++ hosts)) none
    ∙ filter_map-append (write_in slot) faults hosts
    ∙ ap (λ ws. ws ++ filter_map (write_in slot) hosts) none_more in
    omega (
      arith,
      length-filter_map (payload_of_host k) (writes_in script slot),
      ap length written,
      few-written list slots slot,
      room-below list.buffers valid.buffers.0,
    )

-- All of it.

pub all-valid : (list : Medl) (slots number : ℕ) → IsValid list → 1 ≤ slots → slots ≤ SLOT_LIMIT
    → IsValidScript list (generated list slots number)
unfolding generated
all-valid list slots number valid some few =
    let n = length list.slots in
    let script = generated list slots number in
    let events = all_events list slots number in
    let count : length events ≤ 60100 = few-events list slots number valid few in
    record {
      slots = (some, few);
      on_count = length-replicate n (Some 0);
      on = All-replicate (IsWithinRun script) n (Some 0) (omega arith);
      drift_count = length-map-range_with_len (drift_by list number) 0 n;
      drift = All-from_recursion (IsWithinSpan DRIFT_LIMIT) script.drift
          (map_each-below (IsWithinSpan DRIFT_LIMIT) (drift_by list number) n
          (λ k less.
          let within = spread-within list.drift (drawn number (2 * k)) valid.drift.0 in
          span-of list.drift _ 1000 DRIFT_LIMIT valid.drift.1 (omega arith) within.0 within.1));
      events = All-from_recursion (IsValidEvent list script) events (events-valid list number script valid some);
      writes = λ k slot. few-messages list number script k slot valid (generated-is list slots number);
      event_count = omega (arith, count);
      host_event_count = omega (arith, count, count_by-le-length is_host_event events);
    }

-- its events are as their index wants them
pub all-indexed : (list : Medl) (slots number : ℕ) → IsValid list → 1 ≤ slots → slots ≤ SLOT_LIMIT
    → (length (all_events list slots number) ≤ EVENT_LIMIT) × All IsBounded (all_events list slots number)
unfolding generated
all-indexed list slots number valid some few =
    let whole = all-valid list slots number valid some few in (
      whole.event_count,
      λ k d less. event-bounded list (generated list slots number) (get_or (all_events list slots number) k d)
          (whole.events k d less),
    )
