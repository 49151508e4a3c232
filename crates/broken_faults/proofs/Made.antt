-- The node that a loss makes faulty.
use Rattle.std.proofs.Common.{◌≡◌, ℕ, true, ◌||◌, false, List, [], ◌∷◌, Some, ap, ◌∙◌, refl, arith}
use Rattle.std.proofs.lemmas.Bool.{eq-eqb}
use Rattle.std.specs.Prelude.{slice_get}
use Rattle.ttp_base.specs.NodeSet.{has_node}
use Rattle.ttp_world.specs.Hypothesis.{Loss, Harmless, Makes, Breaks, nodes_made}

pub one-made : (loss : Loss) (k : ℕ) → slice_get (nodes_made loss) 0 ≡ Some k → nodes_made loss ≡ k ∷ []
one-made Harmless k first = absurd (grind arith)
one-made (Makes j) k first =
    let is : j ≡ k = grind arith in
    ap (λ n. n ∷ []) is
one-made Breaks k first = absurd (grind arith)

pub has-made : (ks : List ℕ) (k : ℕ) → ks ≡ k ∷ [] → has_node ks k ≡ true
has-made ks k is = ap (λ s. has_node s k) is ∙ ap (λ b. b || false) (eq-eqb k k refl)
