-- What the lines of nodes state, the newest first: all are on from slot 0, and some clocks drift.
use Rattle.std.proofs.Common.{◌≡◌, ℕ, zero, suc, ◌+◌, ◌<◌, ◌≤◌, ◌==◌, ℤ, pos, negsuc}
use Rattle.std.proofs.Common.{Bool, true, false, cond, List, [], ◌∷◌, ◌++◌}
use Rattle.std.proofs.Common.{length, count_by, Option, Some, None, unwrap_or, refl, ap, ◌∙◌, sym, subst, arith}
use Rattle.std.specs.Prelude.{nat_abs}
use Rattle.std.specs.Option.{option_or}
use Rattle.std.proofs.lemmas.Bool.Decides.{nat_tests}
use Rattle.std.proofs.lemmas.List.{append-nil}
use Rattle.ttp_base.specs.Text.{Lines, lines_below}
use Rattle.ttp_base.proofs.Below.{flat_map-next}
use Rattle.ttp_world.specs.declared.medl.Medl.{Medl}
use Rattle.ttp_world.specs.declared.script.Script.{Script}
use Rattle.ttp_world.specs.declared.script.TheConstants.{SLOT_LIMIT, DRIFT_LIMIT}
use Rattle.ttp_world.specs.Script.{IsWithinSpan, on_slot, drift_of}
use Rattle.script_lines.specs.ScriptLines.{on_line, on_lines, drift_line, drift_lines}
use Rattle.script_text.specs.Faults.{slots_of, on_of, drift_stated, events_of, is_write_at}
use Rattle.script_text.specs.Statement.{Statement, says_slots, says_on, says_drift}
use Rattle.script_laws.proofs.FromBelow.{count_none}
use Rattle.script_laws.proofs.Events.{Stands}
use Rattle.script_laws.proofs.Heads.{on_read, drift_read}
use Rattle.script_laws.proofs.Reading.{Reads, reads_none, reads_more, reads_then}

-- The nodes that are on.

abbrev pub ons : ℕ → ℕ → List Statement
ons slots zero = says_slots slots ∷ []
ons slots (suc k) = says_on k 0 ∷ ons slots k

pub ons-slots : (slots k : ℕ) → slots_of (ons slots k) ≡ Some slots
ons-slots slots zero = refl
ons-slots slots (suc k) = ons-slots slots k

pub ons-later : (slots k j : ℕ) → k ≤ j → on_of (ons slots k) j ≡ None
ons-later slots zero j le = refl
ons-later slots (suc k) j le =
    let other : (k == j) ≡ false = grind (arith, nat_tests, le) in
    rw other (ons-later slots k j (omega (arith, le)))

pub ons-before : (slots k j : ℕ) → j < k → on_of (ons slots k) j ≡ Some 0
ons-before slots zero j less = absurd (omega (arith, less))
ons-before slots (suc k) j less = by_same (k == j) refl (ons-before slots k j)
  where
    by_same : (b : Bool) → (k == j) ≡ b → (j < k → on_of (ons slots k) j ≡ Some 0)
        → option_or (cond b (Some 0) None) (on_of (ons slots k) j) ≡ Some 0
    by_same true is earlier = refl
    by_same false is earlier = earlier (grind (arith, nat_tests, is, less))

pub ons-drift : (slots k j : ℕ) → drift_stated (ons slots k) j ≡ None
ons-drift slots zero j = refl
ons-drift slots (suc k) j = ons-drift slots k j

pub ons-events : (slots k : ℕ) → events_of (ons slots k) ≡ []
ons-events slots zero = refl
ons-events slots (suc k) = rw (ons-events slots k) refl

pub ons-writes : (slots m k t : ℕ) → count_by (is_write_at k t) (ons slots m) ≡ 0
ons-writes slots zero k t = count_none (is_write_at k t) (says_slots slots) [] refl
ons-writes slots (suc m) k t = count_none (is_write_at k t) (says_on m 0) (ons slots m) refl ∙ ons-writes slots m k t

below-next : (lines : ℕ → Lines) (k : ℕ) → lines_below lines (suc k) ≡ lines_below lines k ++ lines k
below-next lines k =
    let same : suc k ≡ k + 1 = omega arith in
    ap (lines_below lines) same ∙ flat_map-next lines k

module _ (list : Medl) (script : Script) (few : script.slots ≤ SLOT_LIMIT) (nodes : length list.slots ≤ 24)
    (some : 1 ≤ script.slots) where
  on-stands : (k : ℕ) → Stands list script (ons script.slots k)
  on-stands k = record { slots = ons-slots script.slots k; few = few; nodes = nodes }

  pub on-reads : (k : ℕ) → k ≤ length list.slots → ((j : ℕ) → j < k → on_slot script j ≡ Some 0)
      → Reads list (says_slots script.slots ∷ [])
      (lines_below (λ j. on_lines j (on_slot script j)) k) (ons script.slots k)
  unfolding on_line
  on-reads zero within on = reads_none list (says_slots script.slots ∷ [])
  on-reads (suc k) within on =
      let before = ons script.slots k in
      let here : Reads list before (on_lines k (on_slot script k)) (says_on k 0 ∷ before) =
      subst (λ (o : Option ℕ). Reads list before (on_lines k o) (says_on k 0 ∷ before)) (sym (on k (omega arith)))
      (reads_more list before (says_on k 0 ∷ before) _ [] (says_on k 0)
      (on_read list script before (on-stands k) k 0 (omega (arith, within)) (omega (arith, some))
      (ons-later script.slots k k (omega arith))) (reads_none list (says_on k 0 ∷ before))) in
      subst (λ (text : Lines). Reads list (says_slots script.slots ∷ []) text (ons script.slots (suc k)))
      (sym (below-next (λ j. on_lines j (on_slot script j)) k))
      (reads_then list (says_slots script.slots ∷ []) before (says_on k 0 ∷ before) _ _
      (on-reads k (omega (arith, within)) (λ j less. on j (omega (arith, less)))) here)

-- The clocks that drift.

abbrev pub or_drift : Bool → List Statement → ℕ → ℤ → List Statement
or_drift none before k value = cond none before (says_drift k value ∷ before)

abbrev pub drifts : ℕ → ℕ → (ℕ → ℤ) → ℕ → List Statement
drifts slots n drift zero = ons slots n
drifts slots n drift (suc k) = or_drift (nat_abs (drift k) == 0) (drifts slots n drift k) k (drift k)

or-slots : (none : Bool) (before : List Statement) (k : ℕ) (value : ℤ)
    → slots_of (or_drift none before k value) ≡ slots_of before
or-slots true before k value = refl
or-slots false before k value = refl

or-on : (none : Bool) (before : List Statement) (k : ℕ) (value : ℤ) (j : ℕ)
    → on_of (or_drift none before k value) j ≡ on_of before j
or-on true before k value j = refl
or-on false before k value j = refl

or-events : (none : Bool) (before : List Statement) (k : ℕ) (value : ℤ)
    → events_of (or_drift none before k value) ≡ events_of before
or-events true before k value = refl
or-events false before k value = append-nil (events_of before)

or-other : (none : Bool) (before : List Statement) (k : ℕ) (value : ℤ) (j : ℕ) → (k == j) ≡ false
    → drift_stated (or_drift none before k value) j ≡ drift_stated before j
or-other true before k value j other = refl
or-other false before k value j other = rw other refl

pub drifts-slots : (slots n : ℕ) (drift : ℕ → ℤ) (k : ℕ) → slots_of (drifts slots n drift k) ≡ Some slots
drifts-slots slots n drift zero = ons-slots slots n
drifts-slots slots n drift (suc k) =
    or-slots (nat_abs (drift k) == 0) (drifts slots n drift k) k (drift k) ∙ drifts-slots slots n drift k

pub drifts-on : (slots n : ℕ) (drift : ℕ → ℤ) (k j : ℕ) → on_of (drifts slots n drift k) j ≡ on_of (ons slots n) j
drifts-on slots n drift zero j = refl
drifts-on slots n drift (suc k) j =
    or-on (nat_abs (drift k) == 0) (drifts slots n drift k) k (drift k) j ∙ drifts-on slots n drift k j

pub drifts-events : (slots n : ℕ) (drift : ℕ → ℤ) (k : ℕ) → events_of (drifts slots n drift k) ≡ []
drifts-events slots n drift zero = ons-events slots n
drifts-events slots n drift (suc k) =
    or-events (nat_abs (drift k) == 0) (drifts slots n drift k) k (drift k) ∙ drifts-events slots n drift k

pub drifts-later : (slots n : ℕ) (drift : ℕ → ℤ) (k j : ℕ) → k ≤ j → drift_stated (drifts slots n drift k) j ≡ None
drifts-later slots n drift zero j le = ons-drift slots n j
drifts-later slots n drift (suc k) j le =
    let other : (k == j) ≡ false = grind (arith, nat_tests, le) in
    or-other (nat_abs (drift k) == 0) (drifts slots n drift k) k (drift k) j other
    ∙ drifts-later slots n drift k j (omega (arith, le))

or-writes : (none : Bool) (before : List Statement) (node : ℕ) (value : ℤ) (k t : ℕ)
    → count_by (is_write_at k t) (or_drift none before node value) ≡ count_by (is_write_at k t) before
or-writes true before node value k t = refl
or-writes false before node value k t = count_none (is_write_at k t) (says_drift node value) before refl

pub drifts-writes : (slots n : ℕ) (drift : ℕ → ℤ) (m k t : ℕ)
    → count_by (is_write_at k t) (drifts slots n drift m) ≡ 0
drifts-writes slots n drift zero k t = ons-writes slots n k t
drifts-writes slots n drift (suc m) k t =
    or-writes (nat_abs (drift m) == 0) (drifts slots n drift m) m (drift m) k t ∙ drifts-writes slots n drift m k t

zero_drift : (value : ℤ) → (nat_abs value == 0) ≡ true → value ≡ pos 0
zero_drift (pos zero) is = refl
zero_drift (pos (suc n)) is = absurd (grind (arith, nat_tests, is))
zero_drift (negsuc n) is = absurd (grind (arith, nat_tests, is))

or-here : (none : Bool) (before : List Statement) (k : ℕ) (value : ℤ) → (nat_abs value == 0) ≡ none
    → drift_stated before k ≡ None → unwrap_or (drift_stated (or_drift none before k value) k) (pos 0) ≡ value
or-here true before k value is new = rw new (sym (zero_drift value is))
or-here false before k value is new =
    let same : (k == k) ≡ true = grind (arith, nat_tests) in
    rw same refl

pub drifts-before : (slots n : ℕ) (drift : ℕ → ℤ) (k j : ℕ) → j < k
    → unwrap_or (drift_stated (drifts slots n drift k) j) (pos 0) ≡ drift j
drifts-before slots n drift zero j less = absurd (omega (arith, less))
drifts-before slots n drift (suc k) j less = by_same (k == j) refl (drifts-before slots n drift k j)
  where
    by_same : (b : Bool) → (k == j) ≡ b
        → (j < k → unwrap_or (drift_stated (drifts slots n drift k) j) (pos 0) ≡ drift j)
        → unwrap_or (drift_stated (drifts slots n drift (suc k)) j) (pos 0) ≡ drift j
    by_same true is earlier =
        let same : k ≡ j = grind (arith, nat_tests, is) in
        subst (λ (i : ℕ). unwrap_or (drift_stated (drifts slots n drift (suc k)) i) (pos 0) ≡ drift i) same
        (or-here (nat_abs (drift k) == 0) (drifts slots n drift k) k (drift k) refl
        (drifts-later slots n drift k k (omega arith)))
    by_same false is earlier =
        ap (λ (o : Option ℤ). unwrap_or o (pos 0))
        (or-other (nat_abs (drift k) == 0) (drifts slots n drift k) k (drift k) j is)
        ∙ earlier (grind (arith, nat_tests, is, less))

module _ (list : Medl) (script : Script) (few : script.slots ≤ SLOT_LIMIT) (nodes : length list.slots ≤ 24)
    (n : ℕ) (drift : ℕ → ℤ) where
  abbrev after : ℕ → List Statement
  after k = drifts script.slots n drift k

  pub drift-stands : (k : ℕ) → Stands list script (after k)
  drift-stands k = record { slots = drifts-slots script.slots n drift k; few = few; nodes = nodes }

  drift-here : (k : ℕ) → k < length list.slots → IsWithinSpan DRIFT_LIMIT (drift k)
      → (none : Bool) → (nat_abs (drift k) == 0) ≡ none
      → Reads list (after k) (cond none [] (drift_line k (drift k) ∷ [])) (or_drift none (after k) k (drift k))
  unfolding drift_line
  drift-here k within span true is = reads_none list (after k)
  drift-here k within span false is =
      reads_more list (after k) (says_drift k (drift k) ∷ after k) _ [] (says_drift k (drift k))
      (drift_read list script (after k) (drift-stands k) k (drift k) within span
      (drifts-later script.slots n drift k k (omega arith))) (reads_none list (says_drift k (drift k) ∷ after k))

  pub drift-reads : (k : ℕ) → k ≤ length list.slots → ((j : ℕ) → j < k → drift_of script j ≡ drift j)
      → ((j : ℕ) → j < k → IsWithinSpan DRIFT_LIMIT (drift j))
      → Reads list (ons script.slots n) (lines_below (λ j. drift_lines j (drift_of script j)) k) (after k)
  drift-reads zero within is spans = reads_none list (ons script.slots n)
  drift-reads (suc k) within is spans =
      let here : Reads list (after k) (drift_lines k (drift_of script k)) (after (suc k)) =
      subst (λ (z : ℤ). Reads list (after k) (drift_lines k z) (after (suc k))) (sym (is k (omega arith)))
      (drift-here k (omega (arith, within)) (spans k (omega arith)) (nat_abs (drift k) == 0) refl) in
      subst (λ (text : Lines). Reads list (ons script.slots n) text (after (suc k)))
      (sym (below-next (λ j. drift_lines j (drift_of script j)) k))
      (reads_then list (ons script.slots n) (after k) (after (suc k)) _ _
      (drift-reads k (omega (arith, within)) (λ j less. is j (omega (arith, less)))
      (λ j less. spans j (omega (arith, less)))) here)
