-- Counts of slots in a row.
use Rattle.safety_laws.proofs.PlanWords.{◌≡◌, ℕ, zero, suc, ◌+◌, ◌%◌, ◌<◌, ◌≤◌, Bool}
use Rattle.safety_laws.proofs.PlanWords.{true, false, [], ◌∷◌, ◌++◌, length}
use Rattle.safety_laws.proofs.PlanWords.{refl, ap, subst, ◌∙◌, arith, filter, if◌then◌else◌, mod-eq_of_lt, both_ways}
use Rattle.safety_laws.proofs.PlanWords.{false_from_ne_true, below, FaultPlan, sender, tally}
use Rattle.std.proofs.Common.{add-one}
use Rattle.std.proofs.Math.Nat.{add-mod_right}
use Rattle.std.proofs.lemmas.List.{length-append}
use Rattle.std.proofs.lemmas.List.Elements.{filter-append}
use Rattle.ttp_base.proofs.Below.{below-next}

abbrev one_if : Bool → ℕ
one_if b = if b then 1 else 0

one-fewer : (b c : Bool) → (b ≡ true → c ≡ true) → one_if b ≤ one_if c
one-fewer true true tells = omega arith
one-fewer true false tells = absurd (both_ways _ refl (tells refl))
one-fewer false c tells = omega arith

-- Where one test passes only with another, it passes no more often.
pub count-fewer : (p q : ℕ → Bool) (from many : ℕ) → ((u : ℕ) → from ≤ u → u < from + many → p u ≡ true → q u ≡ true)
    → tally p from many ≤ tally q from many
count-fewer p q from zero tells = omega arith
count-fewer p q from (suc many) tells =
    let rest = count-fewer p q from many (λ u above to passes. tells u above (omega arith) passes) in
    let last =
    one-fewer (p (from + many)) (q (from + many)) (λ passes. tells (from + many) (omega arith) (omega arith) passes) in
    omega (arith, rest, last)

-- two that agree pass as often
pub count-same : (p q : ℕ → Bool) (from many : ℕ) → ((u : ℕ) → from ≤ u → u < from + many → p u ≡ q u)
    → tally p from many ≡ tally q from many
count-same p q from zero agree = refl
count-same p q from (suc many) agree =
    (λ i. one_if (agree (from + many) (omega arith) (omega arith) i)
    + count-same p q from many (λ u above to. agree u above (omega arith)) i)

pub count-none : (p : ℕ → Bool) (from many : ℕ) → ((u : ℕ) → from ≤ u → u < from + many → p u ≡ false)
    → tally p from many ≡ 0
count-none p from zero fails = refl
count-none p from (suc many) fails =
    (λ i. one_if (fails (from + many) (omega arith) (omega arith) i)
    + count-none p from many (λ u above to. fails u above (omega arith)) i)

-- where no two pass, at most one does
count-step : (p : ℕ → Bool) (from many : ℕ) (b : Bool) → p (from + many) ≡ b → (b ≡ true → tally p from many ≡ 0)
    → tally p from many ≤ 1 → one_if b + tally p from many ≤ 1
count-step p from many true last none few = let zero_left = none refl in omega (arith, zero_left)
count-step p from many false last none few = omega (arith, few)

pub count-one : (p : ℕ → Bool) (from many : ℕ)
    → ((u v : ℕ) → from ≤ u → u < v → v < from + many → p u ≡ true → p v ≡ true → ⊥) → tally p from many ≤ 1
count-one p from zero never = omega arith
count-one p from (suc many) never =
    count-step p from many (p (from + many)) refl (λ last. count-none p from many
    (λ u above to. false_from_ne_true _ (λ here. never u (from + many) above to (omega arith) here last)))
    (count-one p from many (λ u v above less to. never u v above less (omega arith)))

-- The slots of a round, wherever it begins.

shift : (p : ℕ → Bool) (from many : ℕ)
    → tally p (suc from) many + one_if (p from) ≡ tally p from many + one_if (p (from + many))
shift p from zero =
    let here : from ≡ from + 0 = omega arith in
    let same : one_if (p from) ≡ one_if (p (from + 0)) = ap (λ t. one_if (p t)) here in
    omega (arith, same)
shift p from (suc many) =
    let rest = shift p from many in
    let next : suc from + many ≡ from + suc many = omega arith in
    let same : one_if (p (suc from + many)) ≡ one_if (p (from + suc many)) = ap (λ t. one_if (p t)) next in
    omega (arith, rest, same)

-- a test by the remainder passes as often in each round
turned-round : (p : ℕ → Bool) (n from : ℕ) → tally (λ u. p (u % n)) from n ≡ tally (λ u. p (u % n)) 0 n
turned-round p n zero = refl
turned-round p n (suc from) =
    let moved = shift (λ u. p (u % n)) from n in
    let same : one_if (p ((from + n) % n)) ≡ one_if (p (from % n)) = ap (λ t. one_if (p t)) (add-mod_right from n) in
    let before = turned-round p n from in
    omega (arith, moved, same, before)

moved-on : (p : ℕ → Bool) (a from many : ℕ) → tally (λ u. p (a + u)) from many ≡ tally p (a + from) many
moved-on p a from zero = refl
moved-on p a from (suc many) =
    let place : a + (from + many) ≡ (a + from) + many = omega arith in
    (λ i. one_if (p (place i)) + moved-on p a from many i)

-- as many of the numbers below n pass as a filter keeps
length-one : (p : ℕ → Bool) (n : ℕ) (b : Bool) → p n ≡ b → length (filter p (n ∷ [])) ≡ one_if b
length-one p n true passes = rw passes
length-one p n false fails = rw fails

pub count-below : (p : ℕ → Bool) (n : ℕ) → tally p 0 n ≡ length (filter p (below n))
count-below p zero = refl
count-below p (suc n) =
    let next : below (suc n) ≡ below n ++ n ∷ [] =
    subst (λ m. below m ≡ below n ++ n ∷ []) (add-one n) (below-next n) in
    let whole : length (filter p (below (suc n))) ≡ length (filter p (below n)) + length (filter p (n ∷ [])) =
    ap (λ ks. length (filter p ks)) next ∙ ap length (filter-append p (below n) (n ∷ []))
    ∙ length-append (filter p (below n)) (filter p (n ∷ [])) in
    let last = length-one p n (p n) refl in
    let rest = count-below p n in
    let here : 0 + n ≡ n = omega arith in
    let same : one_if (p (0 + n)) ≡ one_if (p n) = ap (λ t. one_if (p t)) here in
    omega (arith, whole, last, rest, same)

-- in each round a test of the sender passes as often as there are nodes that pass it
pub count-round : (plan : FaultPlan) (p : ℕ → Bool) (from : ℕ)
    → tally (λ u. p (sender plan u)) from plan.nodes ≡ length (filter p (below plan.nodes))
count-round plan p from =
    let n = plan.nodes in
    moved-on (λ u. p (u % n)) plan.starter from n ∙ turned-round p n (plan.starter + from)
    ∙ count-same (λ u. p (u % n)) p 0 n (λ u above less.
    let fits : u < plan.nodes = omega arith in
    ap p (mod-eq_of_lt fits))
    ∙ count-below p n
