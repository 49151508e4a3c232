-- The nodes of two sets.
use Rattle.hypothesis.proofs.Words.{◌≡◌, ℕ, ◌+◌, ◌<◌, Bool, true, false, ◌&&◌, ◌||◌, List, refl, ap, sym, ◌∙◌, arith}
use Rattle.hypothesis.proofs.Words.{◌==◌, and-false, eqb-true, most_nodes, has_node, with_node}
use Rattle.std.proofs.Common.{ltb}
use Rattle.ttp_base.proofs.NodeSets.{has_node-with}

-- the second set, and of the first the nodes below a number
abbrev pub AreUnited : List ℕ → List ℕ → List ℕ → ℕ → Type 0
AreUnited all first second n =
    (k : ℕ) → k < most_nodes → has_node all k ≡ ((ltb k n && has_node first k) || has_node second k)

ltb-next : (k n : ℕ) → ltb k (n + 1) ≡ ((k == n) || ltb k n)
ltb-next k n = grind arith

put_in : (here less in_first in_second : Bool) → (here ≡ true → in_first ≡ true)
    → (here || ((less && in_first) || in_second)) ≡ (((here || less) && in_first) || in_second)
put_in true less in_first in_second is = rw (is refl) refl
put_in false less in_first in_second is = refl

left_out : (here less in_first in_second : Bool) → (here ≡ true → in_first ≡ false)
    → ((less && in_first) || in_second) ≡ (((here || less) && in_first) || in_second)
left_out true less in_first in_second out = rw (out refl, and-false less) refl
left_out false less in_first in_second out = refl

pub united-with : (all first second : List ℕ) (n : ℕ) → AreUnited all first second n → has_node first n ≡ true
    → AreUnited (with_node all n) first second (n + 1)
united-with all first second n united is k small =
    has_node-with all n k small ∙ ap (λ b. (k == n) || b) (united k small)
    ∙ put_in (k == n) (ltb k n) (has_node first k) (has_node second k)
    (λ same. ap (has_node first) (eqb-true k n same) ∙ is)
    ∙ ap (λ b. (b && has_node first k) || has_node second k) (sym (ltb-next k n))

pub united-without : (all first second : List ℕ) (n : ℕ) → AreUnited all first second n → has_node first n ≡ false
    → AreUnited all first second (n + 1)
united-without all first second n united is k small =
    united k small ∙ left_out (k == n) (ltb k n) (has_node first k) (has_node second k)
    (λ same. ap (has_node first) (eqb-true k n same) ∙ is)
    ∙ ap (λ b. (b && has_node first k) || has_node second k) (sym (ltb-next k n))
