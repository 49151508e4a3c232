-- The script of what is kept, which is that of what the lines state.
use Rattle.script_text.proofs.Terms.{◌≡◌, ℕ, ℤ, pos, List, length, map, get_or, Option, Some, None, Ok, unwrap_or}
use Rattle.script_text.proofs.Terms.{arith, refl, sym, ◌∙◌, ext_get_or, length-map-range_with_len}
use Rattle.script_text.proofs.Terms.{get_or-map-range_with_len, below, Medl, Event, SoFar, Statement, on_of}
use Rattle.script_text.proofs.Terms.{drift_stated, end_faults, stated_script, script_or_fault, LinesStandFor, HasNodes}
use Rattle.std.proofs.lemmas.Simd.{map-map}

-- what is kept of each node is what the lines say of it
each_said : {X : Type 0} (said : ℕ → Option X) (kept : List (Option X)) (n : ℕ)
    → ((k : ℕ) → get_or kept k None ≡ said k) → length kept ≡ n
    → map said (below n) ≡ kept
each_said said kept n stands nodes = ext_get_or None (map said (below n)) kept
    (length-map-range_with_len said 0 n ∙ sym nodes)
    (λ k within. get_or-map-range_with_len said 0 n k k None (omega (arith, length-map-range_with_len said 0 n))
    (omega arith) ∙ sym (stands k))

pub stated_script-kept : (list : Medl) (so_far : SoFar) (said : List Statement) (number slots : ℕ)
    (on : List (Option ℕ)) (drift : List ℤ) (events : List Event)
    → LinesStandFor so_far said → HasNodes list so_far
    → so_far.slots ≡ Some slots → on ≡ so_far.on.items
    → drift ≡ map (λ d. unwrap_or d (pos 0)) so_far.drift.items → events ≡ so_far.events
    → script_or_fault (end_faults number said) (stated_script list said)
    ≡ Ok (record { slots = slots; on = on; drift = drift; events = events })
unfolding stated_script
stated_script-kept list so_far said number slots on drift events stands nodes some on_is drift_is events_is =
    rw (
      sym stands.slots ∙ some,
      each_said (on_of said) so_far.on.items (length list.slots) stands.on (omega (arith, nodes.on, so_far.on.ok)),
      sym (map-map (λ (d : Option ℤ). unwrap_or d (pos 0)) (drift_stated said) (below (length list.slots))),
      each_said (drift_stated said) so_far.drift.items (length list.slots) stands.drift
          (omega (arith, nodes.drift, so_far.drift.ok)),
      sym stands.events,
      on_is,
      drift_is,
      events_is,
    ) refl
