-- Who hears whom in a slot of a run whose armed nodes return.
use Rattle.safety_laws.proofs.BackWords.{◌≡◌, ◌≢◌, ℕ, zero, suc, ◌+◌, ◌-◌, ◌<◌, ◌≤◌}
use Rattle.safety_laws.proofs.BackWords.{Bool, true, false, cond, not, ◌&&◌, ◌||◌}
use Rattle.safety_laws.proofs.BackWords.{◌∷◌, length, Option, Some, None, refl, ap, sym}
use Rattle.safety_laws.proofs.BackWords.{◌∙◌, inl, inr, arith, ◌==◌, find, min}
use Rattle.safety_laws.proofs.BackWords.{list_any, filter, range_with_len, and_parts}
use Rattle.safety_laws.proofs.BackWords.{and_from, or_from, or_left, both_ways}
use Rattle.safety_laws.proofs.BackWords.{eq-eqb, eqb-false, ne_eqb, not-true, or_parts}
use Rattle.safety_laws.proofs.BackWords.{or_cases, cases_lt, not_from_false}
use Rattle.safety_laws.proofs.BackWords.{false_from_ne_true, leb-true, cases_eq, below, Medl, Channel, Fault, Script}
use Rattle.safety_laws.proofs.BackWords.{ClusterStart, loses, expected_sender, is_steady, four_rounds, has_send_fault}
use Rattle.safety_laws.proofs.BackWords.{has_receive_fault, IsClear, clear-loses, on-now, none-found}
use Rattle.ttp_world.specs.Hypothesis.{nodes_of, is_covered}
use Rattle.ttp_world.specs.Returning.{is_deaf, is_deaf_on, is_missed_in, is_sound}
use Rattle.safety_laws.proofs.Arms.{arm-only}
use Rattle.safety_laws.proofs.Entries.{first-found}
use Rattle.safety_laws.proofs.EventLines.{alone-sends, alone-hears}
use Rattle.safety_laws.proofs.Lists.{none-below}
use Rattle.safety_laws.proofs.BackRuns.{IsBackRun}
use Rattle.safety_laws.proofs.Sounds.{IsNearArm, clear-now}
use Rattle.safety_laws.proofs.Walk.{at, after}
use Rattle.ttp_world.specs.declared.script.Channel.TheVariants as channel
use Rattle.ttp_world.specs.declared.script.Fault.TheVariants as fault

filter-none : (p : ℕ → Bool) (a n : ℕ) → ((k : ℕ) → a ≤ k → k < a + n → p k ≡ false)
    → length (filter p (range_with_len a n)) ≡ 0
filter-none p a zero none = refl
filter-none p a (suc n) none =
    let here = none a (omega arith) (omega arith) in
    let rest = filter-none p (a + 1) n (λ k from to. none k (omega arith) (omega arith)) in
    ap (λ b. length (cond b (a ∷ filter p (range_with_len (a + 1) n)) (filter p (range_with_len (a + 1) n))))
    here ∙ rest

filter-one : (p : ℕ → Bool) (a n e : ℕ) → ((k : ℕ) → a ≤ k → k < a + n → p k ≡ true → k ≡ e)
    → length (filter p (range_with_len a n)) ≤ 1
filter-one p a zero e only = omega arith
filter-one p a (suc n) e only =
    by (p a) refl (filter-one p (a + 1) n e (λ k from to passes. only k (omega arith) (omega arith) passes))
  where
    by : (b : Bool) → p a ≡ b → length (filter p (range_with_len (a + 1) n)) ≤ 1
        → length (cond b (a ∷ filter p (range_with_len (a + 1) n)) (filter p (range_with_len (a + 1) n))) ≤ 1
    by true here rest =
        let same = only a (omega arith) (omega arith) here in
        let none =
        filter-none p (a + 1) n (λ k from to. false_from_ne_true _ (λ passes.
        let is = only k (omega arith) (omega arith) passes in
        omega arith)) in
        omega (arith, none)
    by false here rest = rest

another-of : (p : ℕ → Bool) (n e : ℕ) → 2 ≤ length (filter p (below n)) → (q : ℕ) × ((q < n) × ((p q ≡ true) × (q ≢ e)))
another-of p n e some = by (find other (below n)) refl
  where
    other : ℕ → Bool
    other = λ k. p k && not (k == e)

    by : (found : Option ℕ) → find (λ k. p k && not (k == e)) (below n) ≡ found
        → (q : ℕ) × ((q < n) × ((p q ≡ true) × (q ≢ e)))
    by None none =
        let few =
        filter-one p 0 n e (λ k from to passes.
        let fails = none-found (λ k. p k && not (k == e)) 0 n k none from to in
        elim (cases_eq k e) [
          | inl same ↦ same
          | inr differs ↦ absurd (both_ways _ fails (and_from _ _ passes (not_from_false _ (ne_eqb k e differs))))
        ]) in
        absurd (omega (arith, some, few))
    by (Some q) found =
        let first = first-found (λ k. p k && not (k == e)) 0 n q found in
        let parts = and_parts _ _ first.passes in
        (q, (omega (arith, first.to), (parts.0, eqb-false q e (not-true _ parts.1))))

covered-parts : (script : Script) (e r slot : ℕ) (c : Channel) → is_covered script e r slot c ≡ true
    → has_receive_fault script fault.Silence r c slot ≡ false → has_receive_fault script fault.Noise r c slot ≡ false
    → (has_send_fault script fault.Silence e c slot || has_send_fault script fault.Noise e c slot) ≡ true
covered-parts script e r slot c is silent noisy =
    elim (or_cases _ _ is) [
      | inl sends ↦ sends
      | inr hears ↦ absurd (both_ways _ (or_from _ _ silent noisy) hears)
    ]

receiver-covered : (script : Script) (e r slot : ℕ) (c : Channel) → is_covered script e r slot c ≡ true
    → has_send_fault script fault.Silence e c slot ≡ false → has_send_fault script fault.Noise e c slot ≡ false
    → is_deaf_on script r slot c ≡ true
receiver-covered script e r slot c is silent noisy =
    elim (or_cases _ _ is) [
      | inl sends ↦ absurd (both_ways _ (or_from _ _ silent noisy) sends)
      | inr hears ↦ hears
    ]

-- what no slot of the run passes, this one does not
none-range : (p : ℕ → Bool) (a n slot : ℕ) → list_any p (range_with_len a n) ≡ false → a ≤ slot → slot < a + n
    → p slot ≡ false
none-range p a zero slot none from to = absurd (omega arith)
none-range p a (suc n) slot none from to =
    let parts = or_parts _ _ none in
    elim (cases_eq a slot) [
      | inl same ↦ ap p (sym same) ∙ parts.0
      | inr other ↦ none-range p (a + 1) n slot parts.1 (omega arith) (omega arith)
    ]

listed : (p : ℕ → Bool) (arm slot many slots : ℕ) → arm ≤ slot → slot < arm + many → slot < slots
    → list_any p (range_with_len arm (min (arm + many) slots - arm)) ≡ false → p slot ≡ false
listed p arm slot many slots from to within none =
    none-range p arm (min (arm + many) slots - arm) slot none from (omega arith)

module _ {list : Medl} {script : Script} {start : ClusterStart} (run : IsBackRun list script start) where
  -- There is another clear node.

  another-clear : (slot e : ℕ) → start.slot ≤ slot → slot < script.slots
      → (q : ℕ) × ((q < length list.slots) × (IsClear list script start (at list script start slot) slot q × (q ≢ e)))
  another-clear slot e from within =
      let gone = after list script start slot in
      let four : 4 ≤ length (filter (is_steady list script gone) (nodes_of list)) =
      leb-true _ _ (run.steady slot from within) in
      let found = another-of (is_steady list script gone) (length list.slots) e (omega (arith, four)) in
      let q = found.0 in
      let parts = and_parts _ _ found.1.1.0 in
      let rest = and_parts _ _ parts.1 in
      (q, (found.1.0, (clear-now run slot q rest.0 (not-true _ rest.1), found.1.1.1)))

  -- Frames near an arm line.

  -- a node near its arm line hears what a clear node sends, since else all others would lose it
  pub near-hears : (slot r : ℕ) → start.slot ≤ slot → slot < script.slots
      → IsClear list script start (at list script start slot) slot (expected_sender list start slot)
      → IsNearArm list script start slot r → loses script (expected_sender list start slot) slot r ≡ false
  near-hears slot r from within sends near =
      let e = expected_sender list start slot in
      let alone : (kind : Fault) (c : Channel) → has_receive_fault script kind r c slot ≡ false =
      λ kind c. alone-hears list script kind r near.arm slot c near.from near.to near.is.alone in
      false_from_ne_true _ (λ lost.
      let both = and_parts _ _ lost in
      let a =
      covered-parts script e r slot channel.A both.0 (alone fault.Silence channel.A) (alone fault.Noise channel.A) in
      let b =
      covered-parts script e r slot channel.B both.1 (alone fault.Silence channel.B) (alone fault.Noise channel.B) in
      let q = another-clear slot e from within in
      both_ways _ (clear-loses run.course slot q.0 from within q.1.0 q.1.1.1 sends q.1.1.0) (and_from _ _
      (or_left _ _ a) (or_left _ _ b)))

  -- and a clear node hears what a node near its arm line sends
  pub near-heard : (slot r : ℕ) → start.slot ≤ slot → slot < script.slots → r < length list.slots
      → IsNearArm list script start slot (expected_sender list start slot)
      → IsClear list script start (at list script start slot) slot r
      → loses script (expected_sender list start slot) slot r ≡ false
  near-heard slot r from within less near hears =
      let e = expected_sender list start slot in
      let faulty = at list script start slot in
      let alone : (kind : Fault) (c : Channel) → has_send_fault script kind e c slot ≡ false =
      λ kind c. alone-sends list script kind e near.arm slot c near.from near.to near.is.alone in
      let missed : is_missed_in list script start e slot ≡ false =
      listed (is_missed_in list script start e) near.arm slot (four_rounds list) script.slots near.from near.to within
      (not-true _ near.is.heard) in
      let deaf : list_any (is_deaf script faulty slot) (nodes_of list) ≡ false =
      second (expected_sender list start slot == e) (list_any (is_deaf script faulty slot) (nodes_of list)) missed
      (eq-eqb _ _ refl) in
      let here = none-below (is_deaf script faulty slot) (length list.slots) r deaf less in
      let sound : is_sound script faulty slot r ≡ true =
      and_from _ _ (on-now run.course slot r from less hears.ever) (not_from_false _ hears.was) in
      let hearing : (is_deaf_on script r slot channel.A && is_deaf_on script r slot channel.B) ≡ false =
      second (is_sound script faulty slot r) (is_deaf_on script r slot channel.A && is_deaf_on script r slot channel.B)
      here sound in
      false_from_ne_true _ (λ lost.
      let both = and_parts _ _ lost in
      both_ways _ hearing (and_from _ _
      (receiver-covered script e r slot channel.A both.0 (alone fault.Silence channel.A) (alone fault.Noise channel.A))
      (receiver-covered script e r slot channel.B both.1 (alone fault.Silence channel.B)
      (alone fault.Noise channel.B))))
    where
      second : (b c : Bool) → (b && c) ≡ false → b ≡ true → c ≡ false
      second true c none is = none
      second false c none is = absurd (both_ways _ refl is)

-- two of them are one
pub near-same : (list : Medl) (script : Script) (start : ClusterStart) (slot j k : ℕ)
    → IsNearArm list script start slot j → IsNearArm list script start slot k → j ≡ k
near-same list script start slot j k one two = elim (cases_lt two.arm one.arm) [
  | inl later ↦ sym (arm-only two.is j one.arm one.is.armed (omega (arith, later)) (omega (arith, one.from, two.to))).0
  | inr earlier ↦ (arm-only one.is k two.arm two.is.armed earlier (omega (arith, two.from, one.to))).0
]
