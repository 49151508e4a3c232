-- Those who were hurt are told in the order of the nodes.
use Rattle.fault_runs.proofs.Words.{◌≡◌, ℕ, ◌<◌, ◌≤◌, Bool, true, false, ◌&&◌, List, [], ◌∷◌, length, inl, inr, refl}
use Rattle.fault_runs.proofs.Words.{ap, sym, subst, ◌∙◌, arith, filter, below, Medl, Script, History, IsValid}
use Rattle.fault_runs.proofs.Words.{nodes-most, Cost, summary, zeros_world}
use Rattle.std.proofs.Common.{◌||◌, ltb}
use Rattle.std.specs.Prelude.{◌==◌}
use Rattle.std.specs.List.{AllByRecursion}
use Rattle.std.proofs.lemmas.Bool.{and_right, cases_lt, lt-ltb, le-ltb, ne_eqb}
use Rattle.ttp_base.specs.NodeSet.{most_nodes, has_node}
use Rattle.ttp_base.proofs.Below.{below-lt}
use Rattle.ttp_base.proofs.NodeLists.{filter-below}
use Rattle.ttp_base.proofs.NodeSets.{has_node-filter, has_node-sieve, same_sieve}
use Rattle.campaign.specs.Cost.{is_hurt, hurt_nodes}
use Rattle.fault_runs.specs.Listing.{in_order}

none-past : (n j : ℕ) (ks : List ℕ) → AllByRecursion (λ k. k < n) ks → n ≤ j → has_node ks j ≡ false
none-past n j [] small past = refl
none-past n j (k ∷ ks) small past =
    let other : (k == j) ≡ false = ne_eqb k j (λ same. omega (arith, small.0)) in
    ap (λ (b : Bool). b || has_node ks j) other ∙ none-past n j ks small.1 past

-- the nodes of a list that pass a test stand in order
pub in_order-sieve : (p : ℕ → Bool) (n : ℕ) → n ≤ most_nodes → in_order (filter p (below n)) ≡ filter p (below n)
in_order-sieve p n fits =
    same_sieve (has_node (filter p (below n))) (λ j. ltb j n && p j) most_nodes each ∙ filter-below p n most_nodes fits
  where
    each : (j : ℕ) → j < most_nodes → has_node (filter p (below n)) j ≡ (ltb j n && p j)
    each j small = elim (cases_lt j n) [
      | inl less ↦
          let in_range : ltb j n ≡ true = lt-ltb j n less in
          rw in_range (has_node-sieve p n j less)
      | inr past ↦
          let out : ltb j n ≡ false = le-ltb j n past in
          rw out (has_node-filter p (below n) j
          ∙ and_right (p j) (has_node (below n) j) (none-past n j (below n) (below-lt n) past))
    ]

in_order-hurt : (list : Medl) (script : Script) (history : History) → IsValid list
    → in_order (hurt_nodes list script history) ≡ hurt_nodes list script history
in_order-hurt list script history valid =
    in_order-sieve (is_hurt list script history) (length list.slots) (nodes-most list valid)

-- those of a run's cost
pub cost-ordered : (list : Medl) (script : Script) (cost : Cost) → IsValid list → cost ≡ (summary list script).cost
    → in_order cost.hurt ≡ cost.hurt
cost-ordered list script cost valid are =
    subst (λ (told : Cost). in_order told.hurt ≡ told.hurt) (sym are)
    (in_order-hurt list script (zeros_world list script script.slots) valid)
