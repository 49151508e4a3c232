-- A script of the generator keeps the single-fault hypothesis.
use Rattle.script_gen.proofs.Words.{◌≡◌, ℕ, zero, suc, ◌+◌, ◌-◌, ◌*◌, ◌≤◌, Bool, true, false, cond, not, ◌&&◌, [], ◌∷◌}
use Rattle.script_gen.proofs.Words.{◌++◌, length, map, Option, Some, None, refl, ap, sym, subst, ◌∙◌, add-one, arith}
use Rattle.script_gen.proofs.Words.{count_by, is_some, filter, find, range_with_len, false≢true, le-leb, le-ltb, below}
use Rattle.script_gen.proofs.Words.{has_node, map-next, same_sieve, Medl, Script, FaultyNode, nodes_of, numbers_of}
use Rattle.script_gen.proofs.Words.{faulty_nodes_before, breaks_in, keeps, IsValid, no_plan, plan_at, is_ever_on}
use Rattle.script_gen.proofs.Words.{first_starter, starter_of, start_slot_of, fault_slot_of, generated}
use Rattle.std.proofs.Common.{reverse}
use Rattle.std.specs.Prelude.{IsSome}
use Rattle.std.proofs.lemmas.Grind.{reverse_onto}
use Rattle.ttp_world.specs.declared.keep.Keep.TheVariants as keep
use Rattle.ttp_world.specs.Hypothesis.{loss_broken, first_too_early, distance_broken, is_steady}
use Rattle.ttp_world.specs.Hypothesis.{has_four_steady, lacks_steady_after, slots_since_start, sync_broken, unless}
use Rattle.ttp_world.specs.Hypothesis.{window_broken, started_keep}
use Rattle.script_gen.proofs.DrawnClocks.{clocks-hold}
use Rattle.script_gen.proofs.Counts.{without-some, count-places}
use Rattle.script_gen.proofs.FaultEvents.{faults-apart, outside-holds}
use Rattle.script_gen.proofs.Parts.{IsGenerated, generated-is}
use Rattle.script_gen.proofs.Starter.{IsFirst, start_at, on-is, starter-first, start_of-generated}
use Rattle.script_gen.proofs.Struck.{struck, length-struck, AreShown, reached}
use Rattle.script_gen.proofs.Struck.{never-breaks}
use Rattle.ttp_world.proofs.RangeFacts.{none-range as find-none}

-- Losses.

losses-hold : (list : Medl) (number : ℕ) (script : Script) → IsValid list → IsGenerated list number script
    → loss_broken list script (start_at list) ≡ None
losses-hold list number script valid is =
    find-none (breaks_in list script (start_at list)) 0 script.slots
    (λ slot from less. never-breaks list number script slot valid is (omega arith))

-- Distances.

struck-slots : (list : Medl) (number c : ℕ)
    → reverse (map (λ f. f.slot) (struck list number c)) ≡ map (fault_slot_of list) (below c)
struck-slots list number zero = refl
struck-slots list number (suc c) =
    let slots = map (λ (f : FaultyNode). f.slot) (struck list number c) in
    let next : map (fault_slot_of list) (below (suc c))
    ≡ map (fault_slot_of list) (below c) ++ fault_slot_of list c ∷ [] =
    subst (λ m. map (fault_slot_of list) (below m) ≡ map (fault_slot_of list) (below c) ++ fault_slot_of list c ∷ [])
    (add-one c) (map-next (fault_slot_of list) c) in
    reverse_onto slots (fault_slot_of list c) []
    ∙ ap (λ ts. ts ++ fault_slot_of list c ∷ []) (struck-slots list number c) ∙ sym next

never-early : (list : Medl) (earliest a n : ℕ) → earliest ≤ fault_slot_of list a
    → first_too_early (2 * length list.slots) earliest (map (fault_slot_of list) (range_with_len a n)) ≡ None
never-early list earliest a zero late = refl
never-early list earliest a (suc n) late =
    let gap = 2 * length list.slots in
    let rest = first_too_early gap (fault_slot_of list a + gap) (map (fault_slot_of list) (range_with_len (a + 1) n)) in
    let apart = faults-apart list a (a + 1) (omega arith) in
    ap (λ b. cond b (Some (fault_slot_of list a)) rest) (le-ltb (fault_slot_of list a) earliest late)
    ∙ never-early list (fault_slot_of list a + gap) (a + 1) n (omega arith)

distances-hold : (list : Medl) (number : ℕ) (script : Script) → IsValid list → IsGenerated list number script
    → distance_broken list script (start_at list) ≡ None
distances-hold list number script valid is =
    let gap = 2 * length list.slots in
    let earliest = start_slot_of list + 2 * length list.slots in
    let all = reached list number script script.slots valid is (λ j less. less) in
    ap (λ fs. first_too_early gap earliest (reverse (map (λ f. f.slot) fs))) all.faulty
    ∙ ap (first_too_early gap earliest) (struck-slots list number all.count)
    ∙ never-early list earliest 0 all.count (omega arith)

-- Nodes to measure.

steady-test : (sync ever among : Bool) → ever ≡ true → (sync && not among) ≡ (sync && (ever && not among))
steady-test true true among on = refl
steady-test false true among on = refl
steady-test sync false among on = absurd (false≢true on)

four-steady : (list : Medl) (number : ℕ) (script : Script) (slot : ℕ) → IsValid list → IsGenerated list number script
    → AreShown list script slot
    → has_four_steady list script (faulty_nodes_before list script (start_at list) slot) ≡ true
four-steady list number script slot valid is shown =
    let n = length list.slots in
    let at = reached list number script slot valid is shown in
    let faulty = numbers_of (struck list number at.count) in
    let sync = λ (k : ℕ). (plan_at list k).sync in
    let whole : length (filter sync (below n)) ≡ count_by (λ plan. plan.sync) list.slots =
    count-places (λ plan. plan.sync) list.slots no_plan in
    let same =
    same_sieve (λ k. sync k && not (has_node faulty k)) (is_steady list script faulty) n
    (λ k less. steady-test (sync k) (is_ever_on script k) (has_node faulty k)
    (ap is_some (on-is list number script k is less))) in
    ap (has_four_steady list script) at.faulty
    ∙ le-leb 4 (length (filter (is_steady list script faulty) (nodes_of list)))
    (omega (
      arith,
      whole,
      ap length same,
      without-some sync faulty n,
      length-struck list number at.count,
      at.before.few,
      valid.sync,
    ))

steady-holds : (list : Medl) (number : ℕ) (script : Script) → IsValid list → IsGenerated list number script
    → sync_broken list script (start_at list) ≡ None
steady-holds list number script valid is =
    let start = start_slot_of list in
    let at_start = four-steady list number script start valid is (λ j before. absurd (omega arith)) in
    ap (λ b. cond b (find (lacks_steady_after list script (start_at list)) (slots_since_start script (start_at list)))
    (Some start)) at_start
    ∙ find-none (lacks_steady_after list script (start_at list)) start (script.slots - start)
    (λ slot from less. ap not
    (four-steady list number script (suc slot) valid is (λ j before. omega arith)))

-- All rules.

keeps-all : (list : Medl) (number : ℕ) (script : Script) → IsValid list → IsGenerated list number script
    → window_broken list ≡ None → IsFirst list (starter_of list)
    → keeps list script ≡ keep.Yes (start_slot_of list)
keeps-all list number script valid is window first =
    let start = start_at list in
    (λ i. unless 1 (clocks-hold list number script valid is i)
    (unless 2 (window i)
    (unless 3 (outside-holds list number script is i)
    (started_keep list script (start_of-generated list number script is first i)))))
    ∙ (λ i. unless 5 (losses-hold list number script valid is i)
    (unless 6 (distances-hold list number script valid is i)
    (unless 7 (steady-holds list number script valid is i) (keep.Yes (start_slot_of list)))))

starter-found : (list : Medl) (found : Option ℕ) → first_starter list ≡ found → IsSome found
    → IsFirst list (starter_of list)
starter-found list None is some = absurd (false≢true some)
starter-found list (Some k0) is some = starter-first list k0 is

pub keeps-generated : (list : Medl) (slots number : ℕ) → IsValid list → window_broken list ≡ None
    → IsSome (first_starter list)
    → keeps list (generated list slots number) ≡ keep.Yes (start_slot_of list)
keeps-generated list slots number valid window some =
    keeps-all list number (generated list slots number) valid (generated-is list slots number) window
    (starter-found list (first_starter list) refl some)
