-- The first fault near a slot.
use Rattle.std.proofs.Common.{◌≡◌, ℕ, zero, suc, ◌+◌, ◌-◌, ◌<◌, ◌≤◌, min, Bool}
use Rattle.std.proofs.Common.{true, false, cond, ◌&&◌, List, [], ◌∷◌, ◌++◌}
use Rattle.std.proofs.Common.{Option, Some, None, option_map, refl, ap, sym, ◌∙◌, arith}
use Rattle.std.proofs.lemmas.Bool.{lt-ltb, le-ltb}
use Rattle.std.specs.List.{find}
use Rattle.std.specs.Option.{option_or}
use Rattle.std.specs.Prelude.{slice_get, nat_lt}
use Rattle.ttp_world.specs.declared.medl.Medl.{Medl}
use Rattle.ttp_world.specs.declared.script.Script.{Script}
use Rattle.ttp_world.specs.Hypothesis.{ClusterStart, FaultyNode, jumpers_in, loss_in, nodes_made}
use Rattle.ttp_world.specs.Returning.{is_near_fault, two_rounds, four_rounds}
use Rattle.hypothesis.specs.Walks.{all_in}
use Rattle.broken_arms.specs.Arms.{near_fault}
use Rattle.broken_faults.specs.Faults.{faulty_in, new_faults_in, faults_before}
use Rattle.broken_arms.proofs.FromBelow.{faults_from, before-split}

abbrev pub fault_at : ℕ → ℕ → FaultyNode
fault_at slot node = record { slot = slot; node = node }

abbrev pub lies_near : Medl → ℕ → FaultyNode → Bool
lies_near list slot f = is_near_fault list slot f.slot

or-head : (b : Bool) (f : FaultyNode) (rest first second : Option FaultyNode) → rest ≡ option_or first second
    → cond b (Some f) rest ≡ option_or (cond b (Some f) first) second
or-head true f rest first second is = refl
or-head false f rest first second is = is

pub found-append : (p : FaultyNode → Bool) (faults others : List FaultyNode)
    → find p (faults ++ others) ≡ option_or (find p faults) (find p others)
found-append p [] others = refl
found-append p (f ∷ faults) others =
    or-head (p f) f (find p (faults ++ others)) (find p faults) (find p others) (found-append p faults others)

away-in : (list : Medl) (slot at : ℕ) (ks : List ℕ) → is_near_fault list slot at ≡ false
    → find (lies_near list slot) (all_in at ks) ≡ None
away-in list slot at [] away = refl
away-in list slot at (k ∷ ks) away = rw away (away-in list slot at ks away)

near-in : (list : Medl) (slot at : ℕ) (ks : List ℕ) → is_near_fault list slot at ≡ true
    → find (lies_near list slot) (all_in at ks) ≡ option_map (fault_at at) (slice_get ks 0)
near-in list slot at [] near = refl
near-in list slot at (k ∷ ks) near = rw near refl

pub is-near : (list : Medl) (slot at : ℕ) → suc slot - two_rounds list ≤ at → at < slot + four_rounds list
    → is_near_fault list slot at ≡ true
is-near list slot at from to =
    rw (lt-ltb slot (at + two_rounds list) (omega (arith, from)), lt-ltb at (slot + four_rounds list) to) refl

before-near : (list : Medl) (slot at : ℕ) → at < suc slot - two_rounds list → is_near_fault list slot at ≡ false
before-near list slot at less = rw (le-ltb slot (at + two_rounds list) (omega (arith, less))) refl

behind-near : (list : Medl) (slot at : ℕ) → slot + four_rounds list ≤ at → is_near_fault list slot at ≡ false
behind-near list slot at behind =
    rw (le-ltb at (slot + four_rounds list) behind) (no-more (nat_lt slot (at + two_rounds list)))
  where
    no-more : (b : Bool) → (b && false) ≡ false
    no-more true = refl
    no-more false = refl

next-before : (list : Medl) (script : Script) (start : ClusterStart) (slot at : ℕ)
    → find (lies_near list slot) (faults_before list script start at) ≡ None
    → find (lies_near list slot) (faults_before list script start (at + 1))
    ≡ find (lies_near list slot) (new_faults_in list script start at)
next-before list script start slot at none =
    let next : at + 1 ≡ suc at = omega arith in
    ap (λ n. find (lies_near list slot) (faults_before list script start n)) next
    ∙ found-append (lies_near list slot) (faults_before list script start at) (new_faults_in list script start at)
    ∙ ap (λ found. option_or found (find (lies_near list slot) (new_faults_in list script start at))) none

-- none of the slots before the two rounds lies near
pub none-before : (list : Medl) (script : Script) (start : ClusterStart) (slot at : ℕ) → at ≤ suc slot - two_rounds list
    → find (lies_near list slot) (faults_before list script start at) ≡ None
none-before list script start slot zero less = refl
none-before list script start slot (suc at) less =
    found-append (lies_near list slot) (faults_before list script start at) (new_faults_in list script start at)
    ∙ (λ i. option_or (none-before list script start slot at (omega arith) i)
    (away-in list slot at (jumpers_in list script (faulty_in list script start at) at
    ++ nodes_made (loss_in list script start (faulty_in list script start at) at))
    (before-near list slot at (omega arith)) i))

-- a slot in which no node becomes faulty
pub next-none : (list : Medl) (script : Script) (start : ClusterStart) (slot at : ℕ) (js ms : List ℕ)
    → find (lies_near list slot) (faults_before list script start at) ≡ None
    → js ≡ jumpers_in list script (faulty_in list script start at) at
    → ms ≡ nodes_made (loss_in list script start (faulty_in list script start at) at) → slice_get (js ++ ms) 0 ≡ None
    → find (lies_near list slot) (faults_before list script start (at + 1)) ≡ None
next-none list script start slot at js ms none jumped made first =
    next-before list script start slot at none
    ∙ (λ i. find (lies_near list slot) (all_in at (sym jumped i ++ sym made i))) ∙ nobody (js ++ ms) first
  where
    nobody : (ks : List ℕ) → slice_get ks 0 ≡ None → find (lies_near list slot) (all_in at ks) ≡ None
    nobody [] first = refl
    nobody (k ∷ ks) first = absurd (grind arith)

-- the first of a near slot
pub next-found : (list : Medl) (script : Script) (start : ClusterStart) (slot at k : ℕ) (js ms : List ℕ)
    → find (lies_near list slot) (faults_before list script start at) ≡ None
    → js ≡ jumpers_in list script (faulty_in list script start at) at
    → ms ≡ nodes_made (loss_in list script start (faulty_in list script start at) at) → slice_get (js ++ ms) 0 ≡ Some k
    → suc slot - two_rounds list ≤ at → at < slot + four_rounds list → at < script.slots
    → near_fault list script start slot ≡ Some (fault_at at k)
next-found list script start slot at k js ms none jumped made first from to within =
    let split : at + 1 + (script.slots - (at + 1)) ≡ script.slots = omega (arith, within) in
    let found : find (lies_near list slot) (faults_before list script start (at + 1)) ≡ Some (fault_at at k) =
    next-before list script start slot at none
    ∙ (λ i. find (lies_near list slot) (all_in at (sym jumped i ++ sym made i)))
    ∙ near-in list slot at (js ++ ms) (is-near list slot at from to) ∙ ap (option_map (fault_at at)) first in
    ap (λ n. find (lies_near list slot) (faults_before list script start n)) (sym split)
    ∙ ap (find (lies_near list slot)) (before-split list script start (at + 1) (script.slots - (at + 1)))
    ∙ found-append (lies_near list slot) (faults_before list script start (at + 1))
    (faults_from list script start (at + 1) (script.slots - (at + 1)))
    ∙ ap (λ first. option_or first (find (lies_near list slot)
    (faults_from list script start (at + 1) (script.slots - (at + 1))))) found

behind-none : (list : Medl) (script : Script) (start : ClusterStart) (slot at n : ℕ) → slot + four_rounds list ≤ at
    → find (lies_near list slot) (faults_from list script start at n) ≡ None
behind-none list script start slot at zero behind = refl
behind-none list script start slot at (suc n) behind =
    found-append (lies_near list slot) (new_faults_in list script start at) (faults_from list script start (suc at) n)
    ∙ ap (λ found. option_or found (find (lies_near list slot) (faults_from list script start (suc at) n)))
    (away-in list slot at _ (behind-near list slot at behind))
    ∙ behind-none list script start slot (suc at) n (omega arith)

later-none : (list : Medl) (script : Script) (start : ClusterStart) (slot at n : ℕ)
    → (0 < n → slot + four_rounds list ≤ at) → find (lies_near list slot) (faults_from list script start at n) ≡ None
later-none list script start slot at zero behind = refl
later-none list script start slot at (suc n) behind =
    behind-none list script start slot at (suc n) (behind (omega arith))

-- none where none was found up to the end of the four rounds or of the run
pub none-near : (list : Medl) (script : Script) (start : ClusterStart) (slot last : ℕ)
    → last ≡ min (slot + four_rounds list) script.slots
    → find (lies_near list slot) (faults_before list script start last) ≡ None
    → near_fault list script start slot ≡ None
none-near list script start slot last is none =
    let split : last + (script.slots - last) ≡ script.slots = omega (arith, is) in
    ap (λ n. find (lies_near list slot) (faults_before list script start n)) (sym split)
    ∙ ap (find (lies_near list slot)) (before-split list script start last (script.slots - last))
    ∙ found-append (lies_near list slot) (faults_before list script start last)
    (faults_from list script start last (script.slots - last))
    ∙ ap (λ found. option_or found
    (find (lies_near list slot) (faults_from list script start last (script.slots - last)))) none
    ∙ later-none list script start slot last (script.slots - last) (λ more. omega (arith, is, more))
