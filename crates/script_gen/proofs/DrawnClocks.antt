-- Drifts and reading errors lie within the list's bounds.
use Rattle.script_gen.proofs.Words.{◌≡◌, ℕ, ◌+◌, ◌-◌, ◌*◌, ◌%◌, ◌<◌, ℤ, pos, neg_ℤ, ◌≤ℤ◌, true, not, cond, ◌&&◌, []}
use Rattle.script_gen.proofs.Words.{◌∷◌, ◌++◌, length, get_or, Some, None, refl, ap, sym, ◌∙◌, mod-lt, arith, nat_le}
use Rattle.script_gen.proofs.Words.{cons_option, filter_map, find, eq-eqb, ne_eqb, le-leb, ints, filter_map-append}
use Rattle.script_gen.proofs.Words.{below, all-below, Medl, Event, Script, covers, IsValid, drawn, spread_over}
use Rattle.script_gen.proofs.Words.{drift_by, error_by, error_events, fault_events, host_events, each-append}
use Rattle.std.proofs.Common.{negsuc, ◌+ℤ◌}
use Rattle.std.proofs.lemmas.List.Concat.{flat_map_single}
use Rattle.std.proofs.lemmas.List.FromFn.{get_or-map-range_with_len}
use Rattle.ttp_world.specs.Events.{error_in, sum_ℤ}
use Rattle.ttp_world.specs.Hypothesis.{is_within_bound, drifts_hold, errors_hold_in, clocks_broken}
use Rattle.ttp_world.specs.Script.{drift_of, reading_error}
use Rattle.script_gen.proofs.Parts.{IsGenerated, each-fault, each-host}
use Rattle.script_gen.proofs.Ranges.{filter_map-flat_map, flat_map-one}
use Rattle.ttp_world.proofs.LineLists.{filter_map-none as nothing-each}
use Rattle.ttp_world.proofs.SmallTests.{test_of_both as test-within, plus_none as plus-zero}
use Rattle.ttp_world.proofs.RangeFacts.{none-range as find-none}

-- a draw lies within its bound
pub spread-within : (bound : ℤ) (draw : ℕ) → pos 0 ≤ℤ bound
    → (neg_ℤ bound ≤ℤ spread_over bound draw) × (spread_over bound draw ≤ℤ bound)
spread-within (pos b) draw from =
    let less : draw % (2 * b + 1) < 2 * b + 1 = mod-lt draw (omega arith) in
    (omega (arith, ints), omega (arith, ints))
spread-within (negsuc b) draw from = absurd (omega arith)

pub drift-is : (list : Medl) (number : ℕ) (script : Script) (k : ℕ) → IsGenerated list number script
    → k < length list.slots → drift_of script k ≡ drift_by list number k
drift-is list number script k is less =
    ap (λ drifts. get_or drifts k (pos 0)) is.drift
    ∙ get_or-map-range_with_len (drift_by list number) 0 (length list.slots) k k (pos 0) less (omega arith)

-- Reading errors: each node has one event, which covers each slot of the run.

covers-all : (slots slot : ℕ) → slot < slots → covers 0 (slots - 1) slot ≡ true
covers-all slots slot less =
    ap (λ b. b && nat_le slot (slots - 1)) (le-leb 0 slot (omega arith)) ∙ le-leb slot (slots - 1) (omega arith)

-- of the events of errors, one is the node's
error-own : (list : Medl) (slots number k slot : ℕ) → slot < slots
    → error_in k slot (error_by list slots number k) ≡ Some (spread_over list.error (drawn number (2 * k + 1)))
error-own list slots number k slot less =
    let value = spread_over list.error (drawn number (2 * k + 1)) in
    ap (λ b. cond (b && covers 0 (slots - 1) slot) (Some value) None) (eq-eqb k k refl)
    ∙ ap (λ b. cond b (Some value) None) (covers-all slots slot less)

error-other : (list : Medl) (slots number k j slot : ℕ) → (j ≡ k → ⊥)
    → error_in k slot (error_by list slots number j) ≡ None
error-other list slots number k j slot other =
    ap (λ b. cond (b && covers 0 (slots - 1) slot) (Some (spread_over list.error (drawn number (2 * j + 1)))) None)
    (ne_eqb j k other)

errors-told : (list : Medl) (slots number k slot : ℕ) → k < length list.slots → slot < slots
    → filter_map (error_in k slot) (error_events list slots number)
    ≡ spread_over list.error (drawn number (2 * k + 1)) ∷ []
errors-told list slots number k slot node less =
    let n = length list.slots in
    let each = λ (j : ℕ). filter_map (error_in k slot) (error_by list slots number j ∷ []) in
    ap (filter_map (error_in k slot)) (sym (flat_map_single (error_by list slots number) (below n)))
    ∙ filter_map-flat_map (error_in k slot) (λ j. error_by list slots number j ∷ []) (below n)
    ∙ flat_map-one each n k
    (λ j other. ap (λ found. cons_option found []) (error-other list slots number k j slot other)) node
    ∙ ap (λ found. cons_option found []) (error-own list slots number k slot less)

no-errors : (list : Medl) (slots number k slot : ℕ)
    → filter_map (error_in k slot) (fault_events list slots number ++ host_events list slots) ≡ []
no-errors list slots number k slot =
    let P = λ (e : Event). error_in k slot e ≡ None in
    nothing-each (error_in k slot) (fault_events list slots number ++ host_events list slots)
    (each-append P (fault_events list slots number) (host_events list slots)
    (each-fault P list slots number (record { sends = λ j less within. refl; receives = λ j less within. refl }))
    (each-host P list slots (record {
      writes = λ t less loaded. refl;
      statuses = λ t less. refl;
      reads = λ t less loaded. refl;
    })))

pub error-is : (list : Medl) (number : ℕ) (script : Script) (k slot : ℕ) → IsGenerated list number script
    → k < length list.slots → slot < script.slots
    → reading_error script k slot ≡ spread_over list.error (drawn number (2 * k + 1))
error-is list number script k slot is node less =
    let others = fault_events list script.slots number ++ host_events list script.slots in
    let value = spread_over list.error (drawn number (2 * k + 1)) in
    ap (λ events. sum_ℤ (filter_map (error_in k slot) events)) is.events
    ∙ ap sum_ℤ (filter_map-append (error_in k slot) (error_events list script.slots number) others)
    ∙ ap (λ values. sum_ℤ (values ++ filter_map (error_in k slot) others))
    (errors-told list script.slots number k slot node less)
    ∙ ap (λ values. value +ℤ sum_ℤ values)
    (no-errors list script.slots number k slot)
    ∙ plus-zero value

-- The rule on clocks.

pub clocks-hold : (list : Medl) (number : ℕ) (script : Script) → IsValid list → IsGenerated list number script
    → clocks_broken list script ≡ None
clocks-hold list number script valid is =
    let n = length list.slots in
    let drifts : drifts_hold list script ≡ true =
    all-below (λ k. is_within_bound list.drift (drift_of script k)) n
    (λ k less.
    let within = spread-within list.drift (drawn number (2 * k)) valid.drift.0 in
    ap (is_within_bound list.drift) (drift-is list number script k is less)
    ∙ test-within list.drift (drift_by list number k) within.0 within.1) in
    ap (λ b. cond b (find (λ slot. not (errors_hold_in list script slot)) (below script.slots)) (Some 0)) drifts
    ∙ find-none (λ slot. not (errors_hold_in list script slot)) 0 script.slots
    (λ slot from less. ap not
    (all-below (λ k. is_within_bound list.error (reading_error script k slot)) n
    (λ k node.
    let within = spread-within list.error (drawn number (2 * k + 1)) valid.error.0 in
    ap (is_within_bound list.error) (error-is list number script k slot is node (omega arith))
    ∙ test-within list.error (spread_over list.error (drawn number (2 * k + 1))) within.0 within.1)))
