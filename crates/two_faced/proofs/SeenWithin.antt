-- What is seen of clocks in a run of a script in which one sender may be two-faced stays within the bound.
use Rattle.two_faced.proofs.Words.{◌≡◌, ℕ, ◌*◌, ◌<◌, ◌≤◌, ℤ, pos, negsuc, ◌+ℤ◌, ◌-ℤ◌, ◌*ℤ◌, ◌≤ℤ◌, true, not, [], ◌∷◌}
use Rattle.two_faced.proofs.Words.{length, ap, ◌∙◌, arith, ◌&&◌, ◌==◌, nat_lt, int_le, ints, below-lt, Medl, Script}
use Rattle.two_faced.proofs.Words.{History, nodes_of, IsLegal, IsValid, newest_slot, IsValidScript, is_on, Numbers}
use Rattle.two_faced.proofs.Words.{node_past, world, legal-older, length-world, bound, Seen, clock_beside, apart_after}
use Rattle.two_faced.proofs.Words.{seen_in}
use Rattle.std.specs.Prelude.{◌||◌}
use Rattle.std.proofs.lemmas.Bool.{cond_both, and_parts, or_parts, ltb-false}
use Rattle.two_faced.specs.Seen.{seen_of}
use Rattle.two_faced.proofs.Judged.{runs-clocks}
use Rattle.two_faced.proofs.Rules.{RulesHold}
use Rattle.two_faced.proofs.Widest.{widest_within, chosen_within, chosen_where}

bound_up : (d e : ℤ) (n : ℕ) → pos 0 ≤ℤ d → pos 0 ≤ℤ e → pos 0 ≤ℤ (d *ℤ pos (12 * n) +ℤ (e *ℤ pos 6 +ℤ pos 2))
bound_up (pos a) e n up some = omega (arith, ints, some)
bound_up (negsuc a) e n up some = absurd (omega (arith, ints, up))

module _ (list : Medl) (script : Script) (z slot : ℕ) (valid : IsValid list) (script_valid : IsValidScript list script)
    (rules : RulesHold list script z slot) where
  up : pos 0 ≤ℤ bound list
  up = bound_up list.drift list.error (length list.slots) valid.drift.0 valid.error.0

  -- after a slot from the start on
  apart-within : (newest : ℕ) (history : History) → ((j k : ℕ) → j < length list.slots → k < length list.slots
      → is_on script j newest ≡ true → is_on script k newest ≡ true
      → ((node_past list script history j).offset -ℤ (node_past list script history k).offset) ≤ℤ bound list)
      → apart_after list script z newest history ≤ℤ bound list
  apart-within newest history near =
      widest_within (bound list) _ up
      (chosen_within (clock_beside list script z newest history) (λ k. k < length list.slots) (bound list)
      (nodes_of list) (below-lt (length list.slots)) (λ j k u v node_j node_k is was.
      let first = chosen_where (not (j == z) && is_on script j newest) (node_past list script history j).offset u is in
      let second = chosen_where (not (k == z) && is_on script k newest) (node_past list script history k).offset v was
      in
      rw (← first.1, ← second.1) (near k j node_k node_j (and_parts (not (k == z)) (is_on script k newest) second.0).1
      (and_parts (not (j == z)) (is_on script j newest) first.0).1)))

  seen-within : (numbers : Numbers) → IsLegal list script numbers → length numbers ≤ script.slots
      → (seen_in list script z slot (world list script numbers)).value ≤ℤ bound list
  seen-within [] legal within = up
  seen-within (new ∷ numbers) legal within =
      let older = world list script numbers in
      let history = world list script (new ∷ numbers) in
      let long = length-world list script numbers in
      let newest : newest_slot history ≡ length older = omega arith in
      let seen = seen_in list script z slot older in
      let before = seen-within numbers (legal-older list script new numbers legal) (omega (arith, within)) in
      let apart = apart_after list script z (length older) history in
      cond_both (nat_lt (length older) slot || int_le apart seen.value) seen
      (record { value = apart; slot = length older }) (λ (s : Seen). s.value ≤ℤ bound list) (λ stays. before) (λ more.
      let late = ltb-false (length older) slot
      (or_parts (nat_lt (length older) slot) (int_le apart seen.value) more).0 in
      apart-within (length older) history (λ j k node_j node_k on_j on_k.
      runs-clocks list script z slot valid script_valid rules (new ∷ numbers) legal (omega (arith, late, long)) within j
      k node_j node_k (ap (is_on script j) newest ∙ on_j) (ap (is_on script k) newest ∙ on_k)))

  pub runs-seen : (numbers : Numbers) → IsLegal list script numbers → length numbers ≤ script.slots
      → (seen_of list script numbers z).value ≤ℤ bound list
  runs-seen numbers legal within = rw (rules.started, rules.from) (seen-within numbers legal within)
