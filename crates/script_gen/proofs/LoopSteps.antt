-- One node, one fault and one slot more, as loops add them to the events before.
use Rattle.script_gen.proofs.Words.{◌≡◌, ℕ, ◌+◌, ◌-◌, ◌*◌, ◌%◌, ◌<◌, ◌≤◌, ℤ, cond, List, [], ◌∷◌, ◌++◌, length, map, ap}
use Rattle.script_gen.proofs.Words.{sym, ◌∙◌, replicate, Option, Some, flat_map, lt-ltb, le-ltb, append-nil, below}
use Rattle.script_gen.proofs.Words.{map-next, Medl, Event, Script, drawn, spread_over, drift_by, error_by}
use Rattle.script_gen.proofs.Words.{fault_slot_of, fault_by, fault_within, write_by, reads_by, host_events_in}
use Rattle.script_gen.proofs.Words.{error_events, fault_events, host_events, all_events, generated}
use Rattle.std.proofs.Common.{append_assoc}
use Rattle.ttp_base.proofs.Below.{flat_map-next}
use Rattle.ttp_world.specs.declared.script.Event.TheVariants as event

pub drifts-next : (list : Medl) (number node count : ℕ) (old new : List ℤ) (value : ℤ)
    → new ≡ old ++ value ∷ [] → old ≡ map (drift_by list number) (below node)
    → value ≡ spread_over list.drift (drawn number count) → count ≡ 2 * node
    → new ≡ map (drift_by list number) (below (node + 1))
drifts-next list number node count old new value pushed before drew place =
    pushed
    ∙ (λ i. before i ++ (drew ∙ ap (λ at. spread_over list.drift (drawn number at)) place) i ∷ [])
    ∙ sym (map-next (drift_by list number) node)

pub errors-next : (list : Medl) (slots number node count : ℕ) (first old new : List Event) (value : ℤ)
    → new ≡ old ++ event.Error node value 0 (slots - 1) ∷ []
    → old ≡ first ++ map (error_by list slots number) (below node)
    → value ≡ spread_over list.error (drawn number count) → count ≡ 2 * node + 1
    → new ≡ first ++ map (error_by list slots number) (below (node + 1))
errors-next list slots number node count first old new value pushed before drew place =
    pushed
    ∙ (λ i. before i ++ event.Error node ((drew ∙ ap (λ at. spread_over list.error (drawn number at)) place) i) 0
    (slots - 1) ∷ [])
    ∙ append_assoc first (map (error_by list slots number) (below node)) (error_by list slots number node ∷ [])
    ∙ ap (λ events. first ++ events) (sym (map-next (error_by list slots number) node))

-- a part more of a list that is made of parts
part-next : (part : ℕ → List Event) (k : ℕ) (first old new : List Event) → new ≡ old ++ part k
    → old ≡ first ++ flat_map part (below k)
    → new ≡ first ++ flat_map part (below (k + 1))
part-next part k first old new added before =
    added ∙ ap (λ events. events ++ part k) before ∙ append_assoc first (flat_map part (below k)) (part k)
    ∙ ap (λ events. first ++ events) (sym (flat_map-next part k))

pub faults-next : (list : Medl) (slots number j : ℕ) (first old new : List Event) (e : Event)
    → new ≡ old ++ e ∷ [] → old ≡ first ++ flat_map (fault_within list slots number) (below j)
    → e ≡ fault_by list j (drawn number (2 * length list.slots + j)) → fault_slot_of list j < slots
    → new ≡ first ++ flat_map (fault_within list slots number) (below (j + 1))
faults-next list slots number j first old new e pushed before drew within =
    part-next (fault_within list slots number) j first old new
    (pushed ∙ ap (λ event. old ++ event ∷ []) drew
    ∙ sym (ap (λ b. old ++ cond b (fault_by list j (drawn number (2 * length list.slots + j)) ∷ []) [])
    (lt-ltb (fault_slot_of list j) slots within)))
    before

pub faults-past : (list : Medl) (slots number j : ℕ) (first old : List Event)
    → old ≡ first ++ flat_map (fault_within list slots number) (below j) → slots ≤ fault_slot_of list j
    → old ≡ first ++ flat_map (fault_within list slots number) (below (j + 1))
faults-past list slots number j first old before past =
    part-next (fault_within list slots number) j first old old
    (sym (append-nil old)
    ∙ sym (ap (λ b. old ++ cond b (fault_by list j (drawn number (2 * length list.slots + j)) ∷ []) [])
    (le-ltb (fault_slot_of list j) slots past)))
    before

pub hosts-next : (list : Medl) (slot : ℕ) (first old written new : List Event)
    → written ≡ old ++ write_by list slot (slot % length list.slots)
    → new ≡ written ++ reads_by list slot ((slot + 1) % length list.slots) (slot % length list.slots)
    → old ≡ first ++ flat_map (host_events_in list) (below slot)
    → new ≡ first ++ flat_map (host_events_in list) (below (slot + 1))
hosts-next list slot first old written new wrote read before =
    let n = length list.slots in
    part-next (host_events_in list) slot first old new
    (read ∙ ap (λ events. events ++ reads_by list slot ((slot + 1) % n) (slot % n)) wrote
    ∙ append_assoc old (write_by list slot (slot % n)) (reads_by list slot ((slot + 1) % n) (slot % n))) before

-- All parts together.

pub events-made : (list : Medl) (slots number first_number later_number : ℕ) (none errors faults all : List Event)
    → none ≡ [] → errors ≡ none ++ error_events list slots first_number
    → faults ≡ errors ++ fault_events list slots later_number → all ≡ faults ++ host_events list slots
    → first_number ≡ number → later_number ≡ first_number
    → all ≡ all_events list slots number
events-made list slots number first_number later_number none errors faults all empty erred faulted hosted first later =
    hosted
    ∙ (λ i. (faulted
    ∙ (λ j. (erred ∙ (λ m. empty m ++ error_events list slots (first m))) j
    ++ fault_events list slots ((later ∙ first) j))) i
    ++ host_events list slots)
    ∙ append_assoc (error_events list slots number) (fault_events list slots number) (host_events list slots)

pub script-made : (list : Medl) (slots number : ℕ) (on : List (Option ℕ)) (drift : List ℤ) (events : List Event)
    → on ≡ replicate (length list.slots) (Some 0) → drift ≡ map (drift_by list number) (below (length list.slots))
    → events ≡ all_events list slots number
    → ◌≡◌ {A = Script} (record { slots = slots; on = on; drift = drift; events = events })
    (generated list slots number)
unfolding generated
script-made list slots number on drift events on_is drift_is events_is =
    λ i. record { slots = slots; on = on_is i; drift = drift_is i; events = events_is i }
