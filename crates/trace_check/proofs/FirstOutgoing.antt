-- What nodes send where their hosts have written nothing.
use Rattle.trace_check.proofs.Words.{◌≡◌, ℕ, ◌+◌, List, [], ◌∷◌, ◌++◌, length, get_or, Some, ap, sym, ◌∙◌}
use Rattle.trace_check.proofs.Words.{arith, map, slice_get, replicate, get_or-map-range_with_len}
use Rattle.trace_check.proofs.Words.{length-map-range_with_len, map-range_with_len_more, below, Medl, Chosen, Script}
use Rattle.trace_check.proofs.Words.{nothing_chosen, chosen_of, Outgoing, zeros_chosen, HoldsNewest}
use Rattle.ttp_world.specs.declared.medl.SlotPlan.{SlotPlan}
use Rattle.ttp_world.proofs.ZerosWorlds.{zeros_chosen-plan}
use Rattle.ttp_world.proofs.Rings.{out_messages-first}

abbrev pub first_number : ℕ → ℕ
first_number k = 0

-- of so many nodes
pub record AreFirst (newest : List ℕ) (chosen : List Chosen) (list : Medl) (nodes : ℕ) : Type 0 where
  pub newest_is : newest ≡ map first_number (below nodes)
  pub chosen_is : chosen ≡ map (zeros_chosen list) (below nodes)

pub AreFirst-none : (newest : List ℕ) (chosen : List Chosen) (list : Medl) → newest ≡ [] → chosen ≡ []
    → AreFirst newest chosen list 0
AreFirst-none newest chosen list none nothing = record { newest_is = none; chosen_is = nothing }

pub AreFirst-more : (newest new_newest : List ℕ) (chosen new_chosen : List Chosen) (list : Medl) (k : ℕ)
    (plan : SlotPlan) (zeros : List ℕ)
    → AreFirst newest chosen list k → new_newest ≡ newest ++ 0 ∷ []
    → new_chosen ≡ chosen ++ record { number = 0; payload = zeros } ∷ []
    → slice_get list.slots k ≡ Some plan → zeros ≡ replicate plan.payload 0
    → AreFirst new_newest new_chosen list (k + 1)
AreFirst-more newest new_newest chosen new_chosen list k plan zeros first more chosen_more at are =
    let one = zeros_chosen-plan list k plan zeros at are in
    record {
      newest_is = more ∙ ap (λ (ns : List ℕ). ns ++ 0 ∷ []) first.newest_is
          ∙ sym (map-range_with_len_more first_number 0 k k (omega arith));
      chosen_is = chosen_more ∙ (λ i. first.chosen_is i ++ one i ∷ [])
          ∙ sym (map-range_with_len_more (zeros_chosen list) 0 k k (omega arith));
    }

pub first-holds : (o : Outgoing) (list : Medl) (script : Script)
    → AreFirst o.newest.items o.chosen.items list (length list.slots) → HoldsNewest o list script 0
first-holds o list script first =
    let n = length list.slots in
    record {
      hosts = ap length first.newest_is ∙ length-map-range_with_len first_number 0 n;
      nodes = ap length first.chosen_is ∙ length-map-range_with_len (zeros_chosen list) 0 n;
      newest = λ k node.
          ap (λ (ns : List ℕ). get_or ns k 0) first.newest_is
          ∙ get_or-map-range_with_len first_number 0 n k k 0 node (omega arith);
      chosen = λ k node.
          ap (λ (cs : List Chosen). chosen_of cs k) first.chosen_is
          ∙ get_or-map-range_with_len (zeros_chosen list) 0 n k k nothing_chosen node (omega arith)
          ∙ (λ i. record { number = 0; payload = sym (out_messages-first list script k 0) i });
    }
