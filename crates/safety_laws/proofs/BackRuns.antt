-- What the rules say of a run whose armed nodes are guaranteed their places.
use Rattle.safety_laws.proofs.BackWords.{◌≡◌, ℕ, zero, suc, ◌<◌, ◌≤◌, true, false, []}
use Rattle.safety_laws.proofs.BackWords.{length, ◌⊎◌, ap, sym, subst, ◌∙◌, inl}
use Rattle.safety_laws.proofs.BackWords.{inr, arith, AllByRecursion, not-false, Medl}
use Rattle.safety_laws.proofs.BackWords.{Channel, Script, ClusterStart, FaultyNode}
use Rattle.safety_laws.proofs.BackWords.{slots_before, joinings, has_four_before, breaks_arm_in, is_armed, flipped_bits}
use Rattle.safety_laws.proofs.BackWords.{IsValidScript, IsWithinBounds, all_in}
use Rattle.std.proofs.Math.Nat.{eq-or-lt_of_le}
use Rattle.ttp_world.specs.Returning.{may_return, fails_if_armed}
use Rattle.safety_laws.proofs.Spaced.{each-split as any-append}
use Rattle.safety_laws.proofs.Courses.{IsCourse}
use Rattle.safety_laws.proofs.Lists.{none-below}
use Rattle.safety_laws.proofs.Walk.{at, made}

pub record IsBackRun (list : Medl) (script : Script) (start : ClusterStart) : Type 0 where
  pub course : IsCourse list script start (at list script start)
      (λ slot. joinings (slots_before list script start slot))
  pub script_valid : IsValidScript list script
  pub bounds : IsWithinBounds list script
  pub flips : (k slot : ℕ) (c : Channel) → flipped_bits script k c slot ≡ []
  pub steady : (slot : ℕ) → start.slot ≤ slot → slot < script.slots
      → has_four_before list script start (suc slot) ≡ true
  pub armed : (k slot : ℕ) → k < length list.slots → slot < script.slots → is_armed script k slot ≡ true
      → may_return list script start k slot ≡ true

pub armed-may : (list : Medl) (script : Script) (start : ClusterStart) (k slot : ℕ)
    → breaks_arm_in list script start slot ≡ false → k < length list.slots → is_armed script k slot ≡ true
    → may_return list script start k slot ≡ true
armed-may list script start k slot whole less armed =
    let here =
    none-below (λ k. fails_if_armed list script start k slot (is_armed script k slot)) (length list.slots) k whole
    less in
    not-false _ (ap (fails_if_armed list script start k slot) (sym armed) ∙ here)

-- What holds of all that became faulty in the run holds of those of each slot.
pub joined-at : (P : FaultyNode → Type 0) (list : Medl) (script : Script) (start : ClusterStart) (last slot : ℕ)
    → slot < last → AllByRecursion P (joinings (slots_before list script start last))
    → AllByRecursion P (all_in slot (made list script start slot))
joined-at P list script start zero slot within each = absurd (omega arith)
joined-at P list script start (suc last) slot within each =
    let parts =
    any-append P (all_in last (made list script start last)) (joinings (slots_before list script start last)) each in
    by (eq-or-lt_of_le within) parts (joined-at P list script start last slot)
  where
    by : (suc slot ≡ suc last) ⊎ (suc slot < suc last)
        → AllByRecursion P (all_in last (made list script start last))
        × AllByRecursion P (joinings (slots_before list script start last))
        → (slot < last → AllByRecursion P (joinings (slots_before list script start last))
        → AllByRecursion P (all_in slot (made list script start slot)))
        → AllByRecursion P (all_in slot (made list script start slot))
    by (inl same) parts older =
        let is : last ≡ slot = omega arith in
        subst (λ t. AllByRecursion P (all_in t (made list script start t))) is parts.0
    by (inr less) parts older = older (omega arith) parts.1
