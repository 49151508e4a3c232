-- The faults of a slot one after the other, up to one that comes too early.
use Rattle.std.proofs.Common.{◌≡◌, ℕ, zero, suc, ◌+◌, ◌-◌, ◌*◌, ◌<◌, true, false, List, [], ◌∷◌, ◌++◌, length, drop}
use Rattle.std.proofs.Common.{Option, Some, None, is_some, refl, ap, sym, subst, ◌∙◌, arith, append_assoc}
use Rattle.std.proofs.lemmas.Bool.{lt-ltb}
use Rattle.std.proofs.lemmas.List.{append-nil}
use Rattle.std.specs.Option.{option_or}
use Rattle.std.specs.Prelude.{slice_get}
use Rattle.ttp_world.specs.declared.medl.Medl.{Medl}
use Rattle.ttp_world.specs.declared.script.Script.{Script}
use Rattle.ttp_world.specs.Hypothesis.{ClusterStart, FaultyNode}
use Rattle.hypothesis.specs.Walks.{all_in}
use Rattle.broken_faults.specs.declared.early.EarlyFault.{EarlyFault}
use Rattle.broken_faults.specs.declared.early.Since.{Since}
use Rattle.broken_faults.specs.declared.early.Since.TheVariants as since
use Rattle.broken_faults.specs.Faults.{cause_of, early_by, new_faults_in, faults_before, first_early, slot_since}
use Rattle.broken_faults.specs.Seen.{LooksOver}

-- what is found first is found
pub or-some : {X : Type 0} (found other : Option X) → is_some found ≡ true → option_or found other ≡ found
or-some None other some = absurd (grind arith)
or-some (Some x) other some = refl

pub or-none : {X : Type 0} (found other : Option X) → is_some found ≡ false → option_or found other ≡ other
or-none None other none = refl
or-none (Some x) other none = absurd (grind arith)

pub nothing-found : {X : Type 0} (found : Option X) → is_some found ≡ false → found ≡ None
nothing-found None none = refl
nothing-found (Some x) none = absurd (grind arith)

-- nothing to look over
pub over-none : (list : Medl) (script : Script) (start : ClusterStart) (before : Since)
    → LooksOver list script start before [] None before
over-none list script start before = λ rest. refl

-- one fault
pub over-early : (list : Medl) (script : Script) (start : ClusterStart) (before next : Since) (f : FaultyNode)
    → f.slot < slot_since before + 2 * length list.slots
    → LooksOver list script start before (f ∷ [])
    (Some (early_by (cause_of list script start) (2 * length list.slots) before f)) next
over-early list script start before next f soon =
    λ rest. rw (lt-ltb f.slot (slot_since before + 2 * length list.slots) soon) refl

-- once one came too early, those behind it are not looked at
pub over-found : (list : Medl) (script : Script) (start : ClusterStart)
    (before next : Since) (faults others : List FaultyNode)
    (found : Option EarlyFault) → is_some found ≡ true → LooksOver list script start before faults found next
    → LooksOver list script start before (faults ++ others) found next
over-found list script start before next faults others found some over =
    λ rest. ap (first_early (cause_of list script start) (2 * length list.slots) before)
    (append_assoc faults others rest)
    ∙ over (others ++ rest) ∙ or-some found _ some ∙ sym (or-some found _ some)

-- those behind some of which none did
pub over-both : (list : Medl) (script : Script) (start : ClusterStart) (before between next : Since)
    (faults others : List FaultyNode) (first found : Option EarlyFault) → is_some first ≡ false
    → LooksOver list script start before faults first between → LooksOver list script start between others found next
    → LooksOver list script start before (faults ++ others) found next
over-both list script start before between next faults others first found none over later =
    λ rest. ap (first_early (cause_of list script start) (2 * length list.slots) before)
    (append_assoc faults others rest)
    ∙ over (others ++ rest) ∙ or-none first _ none ∙ later rest

-- the second of two in a slot is too early
pub second-found : (list : Medl) (script : Script) (start : ClusterStart) (slot j k : ℕ) (next : Since)
    (found : Option EarlyFault) → 0 < length list.slots
    → LooksOver list script start (since.Fault slot j) (all_in slot (k ∷ [])) found next → is_some found ≡ true
second-found list script start slot j k next found some over =
    let soon = over-early list script start (since.Fault slot j) next
    (record { slot = slot; node = k }) (omega arith) in
    by found (sym (over []) ∙ soon [])
  where
    by : (found : Option EarlyFault)
        → option_or found None ≡ Some
        (early_by (cause_of list script start) (2 * length list.slots) (since.Fault slot j)
        (record { slot = slot; node = k })) → is_some found ≡ true
    by None is = absurd (grind arith)
    by (Some e) is = refl

-- the first of a list
pub headed : (ks : List ℕ) (k : ℕ) → slice_get ks 0 ≡ Some k → ks ≡ k ∷ drop 1 ks
headed [] k first = absurd (grind arith)
headed (j ∷ ks) k first =
    let is : j ≡ k = grind arith in
    ap (λ n. n ∷ ks) is

-- one that is told otherwise
pub over-same : (list : Medl) (script : Script) (start : ClusterStart) (before next : Since) (slot at k j : ℕ)
    (found : Option EarlyFault) → slot ≡ at → k ≡ j
    → LooksOver list script start before (all_in slot (k ∷ [])) found next
    → LooksOver list script start before (all_in at (j ∷ [])) found next
over-same list script start before next slot at k j found slots nodes over =
    subst (λ s. LooksOver list script start before (all_in s (j ∷ [])) found next) slots
    (subst (λ n. LooksOver list script start before (all_in slot (n ∷ [])) found next) nodes over)

-- the first of a slot's faults by jumps, where it comes too early
pub jump-early : (list : Medl) (script : Script) (start : ClusterStart) (before next : Since) (slot k : ℕ) (ks : List ℕ)
    (found : Option EarlyFault) → slice_get ks 0 ≡ Some k → is_some found ≡ true
    → LooksOver list script start before (all_in slot (k ∷ [])) found next
    → LooksOver list script start before (all_in slot ks) found next
jump-early list script start before next slot k ks found first some over =
    subst (λ js. LooksOver list script start before (all_in slot js) found next) (sym (headed ks k first))
    (over-found list script start before next (all_in slot (k ∷ [])) (all_in slot (drop 1 ks)) found some over)

module _ (list : Medl) (script : Script) where
  -- the second, where the first does not
  pub jump-second :
      (start : ClusterStart) (before next : Since) (slot k j : ℕ) (ks : List ℕ) (first found : Option EarlyFault)
      → 0 < length list.slots → slice_get ks 0 ≡ Some k → slice_get (drop 1 ks) 0 ≡ Some j → is_some first ≡ false
      → LooksOver list script start before (all_in slot (k ∷ [])) first (since.Fault slot k)
      → LooksOver list script start (since.Fault slot k) (all_in slot (j ∷ [])) found next
      → LooksOver list script start before (all_in slot ks) found next
  jump-second start before next slot k j ks first found some head second none over later =
      let rest : all_in slot (j ∷ drop 1 (drop 1 ks)) ≡ all_in slot (drop 1 ks) =
      ap (all_in slot) (sym (headed (drop 1 ks) j second)) in
      let both : LooksOver list script start (since.Fault slot k) (all_in slot (drop 1 ks)) found next =
      subst (λ faults. LooksOver list script start (since.Fault slot k) faults found next) rest
      (over-found list script start (since.Fault slot k) next (all_in slot (j ∷ []))
      (all_in slot (drop 1 (drop 1 ks))) found
      (second-found list script start slot k j next found some later) later) in
      subst (λ js. LooksOver list script start before (all_in slot js) found next) (sym (headed ks k head))
      (over-both list script start before (since.Fault slot k) next (all_in slot (k ∷ [])) (all_in slot (drop 1 ks))
      first
      found none over both)

-- the first alone
pub jump-alone : (list : Medl) (script : Script) (start : ClusterStart) (before next : Since) (slot k : ℕ) (ks : List ℕ)
    (first : Option EarlyFault) → slice_get ks 0 ≡ Some k → drop 1 ks ≡ [] → is_some first ≡ false
    → LooksOver list script start before (all_in slot (k ∷ [])) first next
    → LooksOver list script start before (all_in slot ks) None next
jump-alone list script start before next slot k ks first head alone none over =
    subst (λ found. LooksOver list script start before (all_in slot ks) found next) (nothing-found first none)
    (subst (λ js. LooksOver list script start before (all_in slot js) first next)
    (sym (headed ks k head ∙ ap (λ js. k ∷ js) alone)) over)

-- The faults of the slots from one on, so many.

abbrev pub faults_from : Medl → Script → ClusterStart → ℕ → ℕ → List FaultyNode
faults_from list script start slot zero = []
faults_from list script start slot (suc n) = new_faults_in list script start slot
    ++ faults_from list script start (suc slot) n

pub before-split : (list : Medl) (script : Script) (start : ClusterStart) (slot n : ℕ)
    → faults_before list script start (slot + n)
    ≡ faults_before list script start slot ++ faults_from list script start slot n
before-split list script start slot zero =
    let same : slot + 0 ≡ slot = omega arith in
    ap (faults_before list script start) same ∙ sym (append-nil (faults_before list script start slot))
before-split list script start slot (suc n) =
    let same : slot + suc n ≡ suc slot + n = omega arith in
    ap (faults_before list script start) same ∙ before-split list script start (suc slot) n
    ∙ append_assoc (faults_before list script start slot) (new_faults_in list script start slot)
    (faults_from list script start (suc slot) n)

-- all faults of the run, once one of those of a slot came too early
pub run-found : (list : Medl) (script : Script) (start : ClusterStart) (before next : Since) (slot last : ℕ)
    (found : Option EarlyFault) → slot < last → is_some found ≡ true
    → LooksOver list script start before (faults_before list script start (slot + 1)) found next
    → first_early (cause_of list script start) (2 * length list.slots) before
    (faults_before list script start last) ≡ found
run-found list script start before next slot last found within some over =
    let split : slot + 1 + (last - (slot + 1)) ≡ last = omega (arith, within) in
    ap (λ n. first_early (cause_of list script start) (2 * length list.slots)
    before (faults_before list script start n))
    (sym split)
    ∙ ap (first_early (cause_of list script start) (2 * length list.slots) before)
    (before-split list script start (slot + 1) (last - (slot + 1)))
    ∙ over (faults_from list script start (slot + 1) (last - (slot + 1))) ∙ or-some found _ some

-- and where none did
pub run-none : (list : Medl) (script : Script) (start : ClusterStart) (before next : Since) (last : ℕ)
    → LooksOver list script start before (faults_before list script start last) None next
    → first_early (cause_of list script start) (2 * length list.slots) before
    (faults_before list script start last) ≡ None
run-none list script start before next last over =
    ap (first_early (cause_of list script start) (2 * length list.slots) before)
    (sym (append-nil (faults_before list script start last))) ∙ over []
