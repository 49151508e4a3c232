-- Counts, one run more at a time.
use Rattle.fault_runs.proofs.Words.{◌≡◌, ℕ, ◌+◌, Bool, true, false, cond, List, [], ◌∷◌, ◌++◌, refl, ap, sym, ◌∙◌}
use Rattle.fault_runs.proofs.Words.{length-append, arith, if◌then◌else◌, Medl, Cost}
use Rattle.fault_runs.proofs.Words.{Counts, AreAtMost, is_same_cost}
use Rattle.std.specs.Prelude.{count_by, is_some}
use Rattle.std.proofs.lemmas.List.Sums.{sum_by-append}
use Rattle.std.specs.Prelude.{sum_by}
use Rattle.campaign.specs.Lines.{has_hurt, is_torn, is_dead, counts_of}

count-next : {X : Type 0} (p : X → Bool) (xs : List X) (x : X)
    → count_by p (xs ++ x ∷ []) ≡ count_by p xs + (if p x then 1 else 0)
count-next p xs x =
    sum_by-append (λ y. cond (p y) 1 0) xs (x ∷ []) ∙ ap (λ (n : ℕ). count_by p xs + n) (last (p x))
  where
    last : (b : Bool) → sum_by (λ (y : Bool). cond y 1 0) (b ∷ []) ≡ (if b then 1 else 0)
    last true = refl
    last false = refl

-- the counts of some costs with one more
pub counts-next : (list : Medl) (own : Cost) (costs : List Cost) (cost : Cost) (same hurt split torn dead : Bool)
    → same ≡ is_same_cost list own cost → hurt ≡ has_hurt cost → split ≡ is_some cost.split → torn ≡ is_torn cost
    → dead ≡ is_dead cost
    → record {
      runs = (counts_of list own costs).runs + 1;
      same = (counts_of list own costs).same + (if same then 1 else 0);
      hurt = (counts_of list own costs).hurt + (if hurt then 1 else 0);
      split = (counts_of list own costs).split + (if split then 1 else 0);
      torn = (counts_of list own costs).torn + (if torn then 1 else 0);
      dead = (counts_of list own costs).dead + (if dead then 1 else 0);
    } ≡ counts_of list own (costs ++ cost ∷ [])
counts-next list own costs cost same hurt split torn dead is_same is_hurt is_split has_torn has_died = λ i. record {
  runs = sym (length-append costs (cost ∷ [])) i;
  same = counted (is_same_cost list own) same is_same i;
  hurt = counted has_hurt hurt is_hurt i;
  split = counted (λ (c : Cost). is_some c.split) split is_split i;
  torn = counted is_torn torn has_torn i;
  dead = counted is_dead dead has_died i;
}
  where
    counted : (p : Cost → Bool) (b : Bool) → b ≡ p cost
        → count_by p costs + (if b then 1 else 0) ≡ count_by p (costs ++ cost ∷ [])
    counted p b is =
        ap (λ (t : Bool). count_by p costs + (if t then 1 else 0)) is ∙ sym (count-next p costs cost)

-- what is at most so many is at most one more
pub at_most-more : (most : ℕ) (counts : Counts) → AreAtMost most counts → AreAtMost (most + 1) counts
at_most-more most counts are = record {
  runs = omega (arith, are.runs);
  same = omega (arith, are.same);
  hurt = omega (arith, are.hurt);
  split = omega (arith, are.split);
  torn = omega (arith, are.torn);
  dead = omega (arith, are.dead);
}
