-- The newest of some faults.
use Rattle.std.proofs.Common.{◌≡◌, ℕ, ◌+◌, Bool, true, false, List, [], ◌∷◌, ◌++◌, Option, Some}
use Rattle.std.proofs.Common.{refl, ap, sym, ◌∙◌}
use Rattle.std.specs.List.{filter}
use Rattle.ttp_base.proofs.NodeSets.{same_sieve, has_node-sieve}
use Rattle.ttp_base.specs.NodeSet.{below, has_node}
use Rattle.ttp_world.proofs.ListFacts.{one-more, node-out}
use Rattle.ttp_world.specs.Hypothesis.{FaultyNode}
use Rattle.hypothesis.specs.Walks.{all_in}
use Rattle.broken_faults.specs.Faults.{newest_fault}

pub newest-append : (newest : Option FaultyNode) (faults others : List FaultyNode)
    → newest_fault newest (faults ++ others) ≡ newest_fault (newest_fault newest faults) others
newest-append newest [] others = refl
newest-append newest (f ∷ faults) others = newest-append (Some f) faults others

pub all-append : (slot : ℕ) (js ks : List ℕ) → all_in slot (js ++ ks) ≡ all_in slot js ++ all_in slot ks
all-append slot [] ks = refl
all-append slot (j ∷ js) ks = ap (λ rest. record { slot = slot; node = j } ∷ rest) (all-append slot js ks)

pub newest-all : (newest : Option FaultyNode) (slot : ℕ) (js ks : List ℕ)
    → newest_fault newest (all_in slot (js ++ ks))
    ≡ newest_fault (newest_fault newest (all_in slot js)) (all_in slot ks)
newest-all newest slot js ks =
    ap (newest_fault newest) (all-append slot js ks)
    ∙ newest-append newest (all_in slot js) (all_in slot ks)

-- one node more of a set
pub newest-in : (newest : Option FaultyNode) (slot : ℕ) (p : ℕ → Bool) (n : ℕ) → p n ≡ true
    → newest_fault newest (all_in slot (filter p (below (n + 1)))) ≡ Some (record { slot = slot; node = n })
newest-in newest slot p n is =
    ap (λ ks. newest_fault newest (all_in slot ks)) (one-more p n is)
    ∙ newest-all newest slot (filter p (below n)) (n ∷ [])

pub newest-out : (newest : Option FaultyNode) (slot : ℕ) (p : ℕ → Bool) (n : ℕ) → p n ≡ false
    → newest_fault newest (all_in slot (filter p (below (n + 1))))
    ≡ newest_fault newest (all_in slot (filter p (below n)))
newest-out newest slot p n is = ap (λ ks. newest_fault newest (all_in slot ks)) (node-out p n is)

-- a set of nodes of a list has the nodes that it has
pub sieved : (p : ℕ → Bool) (n : ℕ) (ks : List ℕ) → ks ≡ filter p (below n) → filter (has_node ks) (below n) ≡ ks
sieved p n ks is =
    same_sieve (has_node ks) p n (λ j less. ap (λ s. has_node s j) is ∙ has_node-sieve p n j less) ∙ sym is

-- that of a slot: the one by a loss, or else the newest by a jump
pub newest-loss : (newest : Option FaultyNode) (slot : ℕ) (js ms : List ℕ) (f : FaultyNode) → f ∷ [] ≡ all_in slot ms
    → Some f ≡ newest_fault newest (all_in slot (js ++ ms))
newest-loss newest slot js ms f is =
    sym (newest-all newest slot js ms ∙ ap (newest_fault (newest_fault newest (all_in slot js))) (sym is))

pub newest-jumps : (newest : Option FaultyNode) (slot : ℕ) (js ms : List ℕ) → [] ≡ all_in slot ms
    → newest_fault newest (all_in slot js) ≡ newest_fault newest (all_in slot (js ++ ms))
newest-jumps newest slot js ms is =
    sym (newest-all newest slot js ms ∙ ap (newest_fault (newest_fault newest (all_in slot js))) (sym is))
