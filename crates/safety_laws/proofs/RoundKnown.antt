-- All notes of a tight round that began after the start: they lie near 0, and tell of frames near each sound node's
-- clock.
use Rattle.safety_laws.proofs.Words.{◌≡◌, ℕ, zero, suc, ◌<◌, ◌≤◌, ℤ, ◌+ℤ◌, ◌-ℤ◌, Bool, true, false, cond, List, [], ◌∷◌}
use Rattle.safety_laws.proofs.Words.{◌++◌, length, refl, ap, sym, subst, ◌∙◌, arith, ◌==◌, All, All-nil, All-append}
use Rattle.safety_laws.proofs.Words.{Medl, Entry, Script, notes_in, History, entry_of, continues_stint, ClusterStart}
use Rattle.safety_laws.proofs.Words.{needed, IsValid, IsUpTo, AreNear, correction, clock_after, round_notes, FaultPlan}
use Rattle.safety_laws.proofs.Words.{sender, FollowsWithin, planned_place, IsSoundIn, NotedByPlan, IsTight}
use Rattle.safety_laws.proofs.Apart.{noted_width, near-later, uncorrected-in, same-near}
use Rattle.safety_laws.proofs.NearNotes.{clock_moved, clock-next, notes-next, NextSlot, index-of, small-new, near-new}
use Rattle.safety_laws.proofs.NearNotes.{sound-moved}
use Rattle.safety_laws.proofs.RoundNotes.{Counted, place-slot, sound-goes, sound-back, tight-stays, tight-back}
use Rattle.safety_laws.proofs.BeganTogether.{number-of, counted-run}

pub record NotesKnown (list : Medl) (script : Script) (plan : FaultPlan) (slot : ℕ) (history : History) : Type 0 where
  pub small : IsTight plan slot → sender plan slot < slot → (k : ℕ) → IsSoundIn list plan slot k
      → All (IsUpTo (needed list)) (round_notes list history k)
  -- while the round goes on
  pub near : IsTight plan slot → sender plan slot < slot → suc (sender plan slot) < length list.slots → (x k : ℕ)
      → IsSoundIn list plan slot x → IsSoundIn list plan slot k
      → AreNear (noted_width list (sender plan slot)) (clock_after list script history x)
      (clock_after list script history k) (round_notes list history x)

-- the index of the slot before, where a round goes on
goes-from : (index m slot n : ℕ) (last : Bool) → index ≡ cond last 0 (suc m) → last ≡ false → index < suc slot
    → m < slot
goes-from index m slot n true is other less = cc
goes-from index m slot n false is other less = omega (arith, is, less)

module _ {list : Medl} {script : Script} {start : ClusterStart} {plan : FaultPlan} {slot : ℕ} {row : List Entry}
    {history : History} (s : NextSlot list script start plan slot row history) where
  counted : Counted list plan (suc slot) (row ∷ history)
  counted =
      counted-run list script start plan (suc slot) (row ∷ history) s.before.follows.planned (s.before.noted, s.noted)

  -- a sound node goes on
  goes : (k : ℕ) → IsSoundIn list plan (suc slot) k → continues_stint (entry_of row k) ≡ true
  goes k p = sound-goes list script plan (suc slot) k row history s.noted p (tight-stays plan (suc slot) k s.tight)

  index : sender plan (suc slot) ≡ cond (suc (sender plan slot) == length list.slots) 0 (suc (sender plan slot))
  index = index-of list script start plan slot s.before.follows.planned

  -- its notes after one slot more
  pub sound-notes : (k : ℕ) → IsSoundIn list plan (suc slot) k → round_notes list (row ∷ history) k
      ≡ notes_in list (planned_place list plan (suc slot)) (entry_of row k)
      ++ cond (suc (sender plan slot) == length list.slots) [] (round_notes list history k)
  sound-notes k p =
      notes-next list row history k (sender plan slot) (planned_place list plan (suc slot))
      (suc (sender plan slot) == length list.slots) (goes k p) (counted.places k p)
      (place-slot list script start plan (suc slot) s.before.follows.planned ∙ index)

  -- and its clock
  pub sound-clock : (k : ℕ) → IsSoundIn list plan (suc slot) k → clock_after list script (row ∷ history) k
      ≡ clock_moved list script history k
      +ℤ correction list (sender plan (suc slot)) (round_notes list (row ∷ history) k)
  sound-clock k p =
      clock-next list script row history k (planned_place list plan (suc slot)) (goes k p) (counted.places k p)
      ∙ ap (λ m. clock_moved list script history k +ℤ correction list m (round_notes list (row ∷ history) k))
      (place-slot list script start plan (suc slot) s.before.follows.planned)

  module _ (known : NotesKnown list script plan slot history) (later : sender plan (suc slot) < suc slot) where
    all-small : (last : Bool) → (suc (sender plan slot) == length list.slots) ≡ last
        → (k : ℕ) → IsSoundIn list plan (suc slot) k → All (IsUpTo (needed list)) (round_notes list (row ∷ history) k)
    all-small last is k p =
        subst (All (IsUpTo (needed list))) (sym (sound-notes k p)) (All-append (IsUpTo (needed list))
        (notes_in list (planned_place list plan (suc slot)) (entry_of row k))
        (cond (suc (sender plan slot) == length list.slots) [] (round_notes list history k)) (small-new s k p)
        (subst (λ b. All (IsUpTo (needed list)) (cond b [] (round_notes list history k))) (sym is) (old last is)))
      where
        old : (b : Bool) → (suc (sender plan slot) == length list.slots) ≡ b
            → All (IsUpTo (needed list)) (cond b [] (round_notes list history k))
        old true ends = All-nil (IsUpTo (needed list))
        old false inside =
            known.small (tight-back plan slot (index ∙ ap (λ b. cond b 0 (suc (sender plan slot))) inside) s.tight)
            (goes-from (sender plan (suc slot)) (sender plan slot) slot (length list.slots)
            (suc (sender plan slot) == length list.slots) index inside later)
            k (sound-back list plan slot k (tight-stays plan (suc slot) k s.tight) p)

    all-near : suc (sender plan (suc slot)) < length list.slots → (x k : ℕ)
        → IsSoundIn list plan (suc slot) x → IsSoundIn list plan (suc slot) k
        → AreNear (noted_width list (sender plan (suc slot))) (clock_after list script (row ∷ history) x)
        (clock_after list script (row ∷ history) k) (round_notes list (row ∷ history) x)
    all-near less x k p q =
        same-near width (clock_moved list script history x) (clock_moved list script history k)
        (clock_after list script (row ∷ history) x) (clock_after list script (row ∷ history) k)
        (round_notes list (row ∷ history) x) (moved x p) (moved k q)
        (subst (AreNear width (clock_moved list script history x) (clock_moved list script history k))
        (sym (sound-notes x p))
        (All-append (λ d. IsUpTo width ((clock_moved list script history x +ℤ d) -ℤ clock_moved list script history k))
        (notes_in list (planned_place list plan (suc slot)) (entry_of row x))
        (cond (suc (sender plan slot) == length list.slots) [] (round_notes list history x))
        (near-new s x k p q) (old (suc (sender plan slot) == length list.slots) refl)))
      where
        width : ℤ
        width = noted_width list (sender plan (suc slot))

        moved : (j : ℕ) → IsSoundIn list plan (suc slot) j
            → clock_after list script (row ∷ history) j ≡ clock_moved list script history j
        moved j r =
            uncorrected-in list (sender plan (suc slot)) (clock_moved list script history j)
            (clock_after list script (row ∷ history) j) (round_notes list (row ∷ history) j) less (sound-clock j r)

        old : (b : Bool) → (suc (sender plan slot) == length list.slots) ≡ b
            → AreNear width (clock_moved list script history x) (clock_moved list script history k)
            (cond b [] (round_notes list history x))
        old true ends =
            All-nil (λ d. IsUpTo width ((clock_moved list script history x +ℤ d) -ℤ clock_moved list script history k))
        old false inside =
            let next : sender plan (suc slot) ≡ suc (sender plan slot) =
            index ∙ ap (λ b. cond b 0 (suc (sender plan slot))) inside in
            subst (λ i. AreNear (noted_width list i) (clock_moved list script history x)
            (clock_moved list script history k) (round_notes list history x)) (sym next)
            (near-later list (sender plan slot) (clock_after list script history x) (clock_after list script history k)
            (clock_moved list script history x) (clock_moved list script history k) (round_notes list history x)
            (record { up = s.before.valid.drift.0; first = sound-moved s x p; second = sound-moved s k q })
            (known.near (tight-back plan slot next s.tight) (omega (arith, next, later)) (omega (arith, next, less)) x k
            (sound-back list plan slot x (tight-stays plan (suc slot) x s.tight) p)
            (sound-back list plan slot k (tight-stays plan (suc slot) k s.tight) q)))

pub notes-known : (list : Medl) (script : Script) (start : ClusterStart) (plan : FaultPlan) (slot : ℕ)
    (history : History)
    → IsValid list → FollowsWithin list script start plan → NotedByPlan list script start plan slot history
    → length history ≤ script.slots → NotesKnown list script plan slot history
notes-known list script start plan slot [] valid follows noted within = absurd noted
notes-known list script start plan zero (row ∷ history) valid follows noted within = record {
  small = λ tight later. absurd (omega (arith, later));
  near = λ tight later. absurd (omega (arith, later));
}
notes-known list script start plan (suc slot) (row ∷ history) valid follows noted within =
    let number = number-of list script start plan slot history noted.0 in
    let s : IsTight plan (suc slot) → NextSlot list script start plan slot row history = λ tight. record {
      before = record {
        valid = valid;
        follows = follows;
        noted = noted.0;
        within = omega (arith, number, within);
      };
      noted = noted.1;
      tight = tight;
    } in
    let known = notes-known list script start plan slot history valid follows noted.0 (omega (arith, within)) in
    record {
      small = λ tight later. all-small (s tight) known later (suc (sender plan slot) == length list.slots) refl;
      near = λ tight later. all-near (s tight) known later;
    }
