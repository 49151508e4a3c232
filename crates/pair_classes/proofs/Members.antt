-- The members of a set that a test takes.
use Rattle.std.proofs.Common.{◌≡◌, ℕ, suc, arith, Bool, true, false, cond, ◌&&◌, ◌||◌}
use Rattle.std.proofs.Common.{not, List, [], ◌∷◌, ◌++◌, length, refl, ap, sym, ◌∙◌}
use Rattle.std.specs.Prelude.{filter, ◌==◌}
use Rattle.std.specs.List.{list_any}
use Rattle.std.proofs.lemmas.Bool.{ne_eqb}
use Rattle.ttp_base.specs.NodeSet.{most_nodes, below, has_node}
use Rattle.ttp_base.proofs.NodeSets.{filter-filter, has_node-sieve, same_sieve}
use Rattle.pair_classes.specs.Ordered.{IsOrdered}

pub members-taken : (p : ℕ → Bool) (nodes : List ℕ) → IsOrdered nodes
    → filter (λ k. has_node nodes k && p k) (below most_nodes) ≡ filter p nodes
members-taken p nodes ordered = sym (filter-filter (has_node nodes) p (below most_nodes)) ∙ ap (filter p) ordered

pub sieve-ordered : (p : ℕ → Bool) → IsOrdered (filter p (below most_nodes))
sieve-ordered p =
    same_sieve (has_node (filter p (below most_nodes))) p most_nodes (λ j small. has_node-sieve p most_nodes j small)

-- a test takes some, or none
pub some-taken : (p : ℕ → Bool) (nodes : List ℕ) → not (length (filter p nodes) == 0) ≡ list_any p nodes
some-taken p [] = refl
some-taken p (k ∷ nodes) = by (p k) (some-taken p nodes)
  where
    by : (b : Bool) → not (length (filter p nodes) == 0) ≡ list_any p nodes
        → not (length (cond b (k ∷ filter p nodes) (filter p nodes)) == 0) ≡ (b || list_any p nodes)
    by true rest = ap not (ne_eqb (suc (length (filter p nodes))) 0 (λ same. omega (arith, same)))
    by false rest = rest

-- of one list or another
pub any_append : (p : ℕ → Bool) (xs ys : List ℕ) → (list_any p xs || list_any p ys) ≡ list_any p (xs ++ ys)
any_append p [] ys = refl
any_append p (x ∷ xs) ys = by (p x) (any_append p xs ys)
  where
    by : (b : Bool) → (list_any p xs || list_any p ys) ≡ list_any p (xs ++ ys)
        → ((b || list_any p xs) || list_any p ys) ≡ (b || list_any p (xs ++ ys))
    by true rest = refl
    by false rest = rest
