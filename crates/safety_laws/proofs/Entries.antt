-- The slot in which an armed node enters.
use Rattle.safety_laws.proofs.BackWords.{◌≡◌, ℕ, zero, suc, ◌+◌, ◌-◌, ◌<◌, ◌≤◌, Bool}
use Rattle.safety_laws.proofs.BackWords.{true, false, cond, ◌||◌, Option, Some}
use Rattle.safety_laws.proofs.BackWords.{None, refl, ap, sym, ◌∙◌, inl, inr, arith, min, find, list_any, range_with_len}
use Rattle.safety_laws.proofs.BackWords.{both_ways, or_cases, ltb-true, cases_eq, none-some, Medl, Script, ClusterStart}
use Rattle.safety_laws.proofs.BackWords.{two_rounds, offers_place, none-found, entry_slot}
use Rattle.std.specs.Prelude.{unwrap_or}
use Rattle.std.proofs.lemmas.Option.{same_Some}
use Rattle.safety_laws.proofs.Arms.{IsArmedIn}

-- the first of a range that passes
pub record IsFirst (p : ℕ → Bool) (a n t : ℕ) : Type 0 where
  pub from : a ≤ t
  pub to : t < a + n
  pub passes : p t ≡ true
  pub none : (u : ℕ) → a ≤ u → u < t → p u ≡ false

pub first-found : (p : ℕ → Bool) (a n t : ℕ) → find p (range_with_len a n) ≡ Some t → IsFirst p a n t
first-found p a zero t is = absurd (none-some t is)
first-found p a (suc n) t is = by (p a) refl is (first-found p (a + 1) n t)
  where
    by : (b : Bool) → p a ≡ b → cond b (Some a) (find p (range_with_len (a + 1) n)) ≡ Some t
        → (find p (range_with_len (a + 1) n) ≡ Some t → IsFirst p (a + 1) n t) → IsFirst p a (suc n) t
    by true here found rest =
        let same : a ≡ t = same_Some a t found in
        record {
          from = omega arith;
          to = omega arith;
          passes = ap p (sym same) ∙ here;
          none = λ u from to. absurd (omega arith);
        }
    by false here found rest =
        let later = rest found in
        record {
          from = omega (arith, later.from);
          to = omega (arith, later.to);
          passes = later.passes;
          none = λ u from to. elim (cases_eq a u) [
            | inl same ↦ ap p (sym same) ∙ here
            | inr other ↦ later.none u (omega arith) to
          ];
        }

any-found : (p : ℕ → Bool) (a n : ℕ) → list_any p (range_with_len a n) ≡ true → find p (range_with_len a n) ≡ None → ⊥
any-found p a zero has none = both_ways _ refl has
any-found p a (suc n) has none = by (p a) has none (any-found p (a + 1) n)
  where
    by : (b : Bool) → (b || list_any p (range_with_len (a + 1) n)) ≡ true
        → cond b (Some a) (find p (range_with_len (a + 1) n)) ≡ None
        → (list_any p (range_with_len (a + 1) n) ≡ true → find p (range_with_len (a + 1) n) ≡ None → ⊥) → ⊥
    by true has none rest = none-some a (sym none)
    by false has none rest = rest has none

-- In a slot of the run it enters by a frame that is offered, the first one; or the run ends before one is.
pub record IsEntryOf (list : Medl) (script : Script) (start : ClusterStart) (k arm entry : ℕ) : Type 0 where
  pub from : arm ≤ entry
  pub to : entry ≤ arm + two_rounds list
  pub soon : entry < script.slots → entry < arm + two_rounds list
  pub offered : entry < script.slots → offers_place list script start k entry ≡ true
  pub none : (slot : ℕ) → arm ≤ slot → slot < entry → slot < script.slots
      → offers_place list script start k slot ≡ false

pub entry-of : {list : Medl} {script : Script} {start : ClusterStart} {k arm : ℕ} → IsArmedIn list script start k arm
    → IsEntryOf list script start k arm (entry_slot list script start k arm)
entry-of {list = list} {script = script} {start = start} {k = k} {arm = arm} is =
    by (find p (range_with_len arm many)) refl
  where
    p : ℕ → Bool
    p = offers_place list script start k

    many : ℕ
    many = min (arm + two_rounds list) script.slots - arm

    by : (found : Option ℕ) → find p (range_with_len arm many) ≡ found
        → IsEntryOf list script start k arm (unwrap_or found (arm + two_rounds list))
    by (Some t) found =
        let first = first-found p arm many t found in
        record {
          from = first.from;
          to = omega (arith, first.to, is.within);
          soon = λ within. omega (arith, first.to, is.within);
          offered = λ within. first.passes;
          none = λ slot from to within. first.none slot from to;
        }
    by None found =
        let over : script.slots < arm + two_rounds list =
        elim (or_cases _ _ is.offered) [
          | inl ends ↦ ltb-true _ _ ends
          | inr has ↦ absurd (any-found p arm many has found)
        ] in
        record {
          from = omega arith;
          to = omega arith;
          soon = λ within. absurd (omega (arith, over, within));
          offered = λ within. absurd (omega (arith, over, within));
          none = λ slot from to within.
              none-found p arm many slot found from (omega (arith, over, within, is.within));
        }
