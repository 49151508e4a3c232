-- The slots of a run in which faulty nodes may be forgiven: who is faulty in them.
use Rattle.safety_laws.proofs.BackWords.{◌≡◌, ℕ, zero, suc, ◌+◌, ◌-◌, ◌<◌, Bool, true}
use Rattle.safety_laws.proofs.BackWords.{false, cond, not, ◌&&◌, ◌||◌, List, []}
use Rattle.safety_laws.proofs.BackWords.{◌∷◌, refl, ap, sym, ◌∙◌, arith, ◌==◌, filter}
use Rattle.safety_laws.proofs.BackWords.{eqb-true, and_right, has_node, Medl}
use Rattle.safety_laws.proofs.BackWords.{Script, ClusterStart, FaultyNode, numbers_of}
use Rattle.safety_laws.proofs.BackWords.{faulty_since, four_rounds, is_forgiven}
use Rattle.safety_laws.proofs.BackWords.{slots_before, faulty_at, is_armed}
use Rattle.std.proofs.Common.{get_or}
use Rattle.ttp_world.specs.Returning.{no_slot, faulty_slot}
use Rattle.safety_laws.proofs.Spaced.{numbers-next}
use Rattle.ttp_world.proofs.WorldFacts.{get-none, has_node-append}
use Rattle.safety_laws.proofs.Courses.{made_of}

-- the nodes that are faulty at the beginning of a slot, those that it makes faulty, and those that are after it
abbrev pub at : Medl → Script → ClusterStart → ℕ → List ℕ
at list script start slot = numbers_of (faulty_at list script start slot)

abbrev pub made : Medl → Script → ClusterStart → ℕ → List ℕ
made list script start slot = made_of list script start (at list script start slot) slot

abbrev pub after : Medl → Script → ClusterStart → ℕ → List ℕ
after list script start slot = numbers_of (faulty_since (slots_before list script start (suc slot)))

pub after-has : (list : Medl) (script : Script) (start : ClusterStart) (slot k : ℕ)
    → has_node (after list script start slot) k
    ≡ (has_node (made list script start slot) k || has_node (at list script start slot) k)
after-has list script start slot k =
    ap (λ ks. has_node ks k) (numbers-next slot (made list script start slot) (faulty_at list script start slot))
    ∙ has_node-append (made list script start slot) (at list script start slot) k

-- The slots, newest first.

pub get-slot : (list : Medl) (script : Script) (start : ClusterStart) (slot i m : ℕ) → slot ≡ suc (i + m)
    → get_or (slots_before list script start slot) i no_slot
    ≡ faulty_slot list script start m (faulty_at list script start m)
get-slot list script start zero i m is = absurd (omega arith)
get-slot list script start (suc slot) zero m is =
    let same : slot ≡ m = omega arith in
    ap (λ t. faulty_slot list script start t (faulty_at list script start t)) same
get-slot list script start (suc slot) (suc i) m is = get-slot list script start slot i m (omega arith)

-- Who is forgiven.

pub forgiven : Medl → Script → ClusterStart → ℕ → ℕ → Bool
forgiven list script start slot k = is_forgiven list script (slots_before list script start slot) slot k

pub forgiven-late : (list : Medl) (script : Script) (start : ClusterStart) (slot then k : ℕ) → 0 < four_rounds list
    → slot ≡ then + four_rounds list
    → is_forgiven list script (slots_before list script start slot) slot k
    ≡ (has_node (at list script start then) k && is_armed script k then)
forgiven-late list script start slot then k some is =
    let found = get-slot list script start slot (four_rounds list - 1) then (omega arith) in
    let back : slot - four_rounds list ≡ then = omega arith in
    λ i. has_node (numbers_of (found i).stayed) k && is_armed script k (back i)

pub forgiven-early : (list : Medl) (script : Script) (start : ClusterStart) (slot k : ℕ) → 0 < four_rounds list
    → slot < four_rounds list → is_forgiven list script (slots_before list script start slot) slot k ≡ false
forgiven-early list script start slot k some early =
    let none = get-none list script start slot (four_rounds list - 1) (omega arith) in
    λ i. has_node (numbers_of (none i).stayed) k && is_armed script k (slot - four_rounds list)

kept-step : (p : ℕ → Bool) (f : FaultyNode) (k : ℕ) (b hit : Bool) (rest left : List ℕ) → p f.node ≡ b
    → (f.node == k) ≡ hit → has_node left k ≡ (has_node rest k && p k)
    → has_node (cond b (f.node ∷ left) left) k ≡ (has_node (f.node ∷ rest) k && p k)
kept-step p f k b true rest left passes same known =
    let here : p k ≡ b = ap p (sym (eqb-true _ _ same)) ∙ passes in
    by b here
  where
    by : (b : Bool) → p k ≡ b → has_node (cond b (f.node ∷ left) left) k ≡ ((f.node == k || has_node rest k) && p k)
    by true here = rw (same, here) refl
    by false here = rw (same, here) (known ∙ and_right _ _ here)
kept-step p f k b false rest left passes other known = by b
  where
    by : (b : Bool) → has_node (cond b (f.node ∷ left) left) k ≡ ((f.node == k || has_node rest k) && p k)
    by true = rw other known
    by false = rw other known

numbers-cond : (b : Bool) (f : FaultyNode) (fs : List FaultyNode)
    → numbers_of (cond b (f ∷ fs) fs) ≡ cond b (f.node ∷ numbers_of fs) (numbers_of fs)
numbers-cond true f fs = refl
numbers-cond false f fs = refl

numbers-kept : (p : ℕ → Bool) (fs : List FaultyNode) (k : ℕ)
    → has_node (numbers_of (filter (λ f. p f.node) fs)) k ≡ (has_node (numbers_of fs) k && p k)
numbers-kept p [] k = refl
numbers-kept p (f ∷ fs) k =
    ap (λ ks. has_node ks k) (numbers-cond (p f.node) f (filter (λ f. p f.node) fs))
    ∙ kept-step p f k (p f.node) (f.node == k) (numbers_of fs) (numbers_of (filter (λ f. p f.node) fs)) refl refl
    (numbers-kept p fs k)

-- at the beginning of the next slot those are faulty that were and are not forgiven
pub at-next : (list : Medl) (script : Script) (start : ClusterStart) (slot k : ℕ)
    → has_node (at list script start (suc slot)) k
    ≡ (has_node (after list script start slot) k
    && not (is_forgiven list script (slots_before list script start (suc slot)) (suc slot) k))
at-next list script start slot k =
    numbers-kept (λ k. not (is_forgiven list script (slots_before list script start (suc slot)) (suc slot) k))
    (faulty_since (slots_before list script start (suc slot))) k
