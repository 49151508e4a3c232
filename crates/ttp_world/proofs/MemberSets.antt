-- The members after an entry, as sets in which nodes are put in and taken out.
use Rattle.ttp_world.proofs.Words.{◌≡◌, ℕ, ◌<◌, ◌≤◌, ℤ, Bool, true, false, cond, not, ◌&&◌, ◌||◌, List, [], length}
use Rattle.ttp_world.proofs.Words.{Option, Some, None, refl, ap, sym, ◌∙◌, inl, inr, ◌==◌, unwrap_or, filter, cases_eq}
use Rattle.ttp_world.proofs.Words.{eq-eqb, ne_eqb, most_nodes, below, has_node, filter-none, same_sieve, Medl, Ack}
use Rattle.ttp_world.proofs.Words.{Verdict, members_after, AreNodes}
use Rattle.ttp_base.specs.NodeSet.{with_node, without_node}
use Rattle.ttp_base.proofs.NodeLists.{with_node-filter, without_node-filter}
use Rattle.ttp_world.specs.declared.node.Ack.TheVariants as ack
use Rattle.ttp_world.specs.declared.node.Entry.TheVariants as entry
use Rattle.ttp_world.specs.declared.node.Verdict.TheVariants as verdict
use Rattle.ttp_world.specs.After.{judged_members}

-- What an opinion makes of what was held before.

pub or-false : (b : Bool) → (b || false) ≡ b
or-false true = refl
or-false false = refl

put_in : (here held : Bool) → (here || held) ≡ unwrap_or (cond here (Some true) None) held
put_in true held = refl
put_in false held = refl

taken_out : (here held : Bool) → (held && not here) ≡ unwrap_or (cond here (Some false) None) held
taken_out true true = refl
taken_out true false = refl
taken_out false true = refl
taken_out false false = refl

doubt_settled : (here doubted held : Bool)
    → (here || (held && not doubted)) ≡ unwrap_or (cond here (Some true) (cond doubted (Some false) None)) held
doubt_settled true doubted held = refl
doubt_settled false doubted held = taken_out doubted held

-- a number's test, the other way round
pub eqb_comm : (a b : ℕ) → (a == b) ≡ (b == a)
eqb_comm a b = elim (cases_eq a b) [
  | inl same ↦ eq-eqb a b same ∙ sym (eq-eqb b a (sym same))
  | inr other ↦ ne_eqb a b other ∙ sym (ne_eqb b a (λ same. other (sym same)))
]

-- A set of the list's nodes with one put in, and with one taken out.

put_in-filter : (members : List ℕ) (n k : ℕ) → members ≡ filter (has_node members) (below n) → k < n → n ≤ most_nodes
    → with_node members k ≡ filter (λ j. unwrap_or (cond (j == k) (Some true) None) (has_node members j)) (below n)
put_in-filter members n k are within fits =
    ap (λ s. with_node s k) are ∙ with_node-filter (has_node members) n k within fits
    ∙ same_sieve (λ j. (j == k) || has_node members j) _ n (λ j _. put_in (j == k) (has_node members j))

taken_out-filter : (members : List ℕ) (n k : ℕ) → members ≡ filter (has_node members) (below n)
    → without_node members k ≡ filter (λ j. unwrap_or (cond (j == k) (Some false) None) (has_node members j)) (below n)
taken_out-filter members n k are =
    ap (λ s. without_node s k) are ∙ without_node-filter (has_node members) n k
    ∙ same_sieve (λ j. has_node members j && not (j == k)) _ n (λ j _. taken_out (j == k) (has_node members j))

doubt_settled-filter : (members : List ℕ) (n x k : ℕ) → members ≡ filter (has_node members) (below n) → k < n
    → n ≤ most_nodes
    → with_node (without_node members x) k
    ≡ filter (λ j. unwrap_or (cond (j == k) (Some true) (cond (x == j) (Some false) None)) (has_node members j))
    (below n)
doubt_settled-filter members n x k are within fits =
    ap (λ s. with_node (without_node s x) k) are
    ∙ ap (λ s. with_node s k) (without_node-filter (has_node members) n x)
    ∙ with_node-filter (λ j. has_node members j && not (j == x)) n k within fits
    ∙ same_sieve (λ j. (j == k) || (has_node members j && not (j == x))) _ n
    (λ j _. ap (λ same. (j == k) || (has_node members j && not same)) (eqb_comm j x)
    ∙ doubt_settled (j == k) (x == j) (has_node members j))

-- The entries that speak of nodes.

pub members_after-Started : (list : Medl) (k : ℕ) (members : List ℕ) (a : Ack) → k < length list.slots
    → length list.slots ≤ most_nodes
    → with_node [] k ≡ members_after list k members a entry.Started
members_after-Started list k members a within fits =
    let n = length list.slots in
    ap (λ s. with_node s k) (sym (filter-none (λ _. false) 0 n (λ j _. refl)))
    ∙ with_node-filter (λ _. false) n k within fits
    ∙ same_sieve (λ j. (j == k) || false) (λ j. j == k) n (λ j _. or-false (j == k))

pub members_after-Sent : (list : Medl) (k : ℕ) (members : List ℕ) (a : Ack) (message : Option ℕ) → AreNodes list members
    → k < length list.slots → length list.slots ≤ most_nodes
    → with_node members k ≡ members_after list k members a (entry.Sent message)
members_after-Sent list k members a message are within fits =
    put_in-filter members (length list.slots) k are within fits

pub members_after-Judged : (list : Medl) (k : ℕ) (members : List ℕ) (a : Ack) (sender : ℕ) (v : Verdict) (deviation : ℤ)
    → AreNodes list members
    → sender < length list.slots → length list.slots ≤ most_nodes
    → judged_members members a v sender ≡ members_after list k members a (entry.Judged sender v deviation)
members_after-Judged list k members (ack.Doubt x) sender verdict.Correct deviation are within fits =
    doubt_settled-filter members (length list.slots) x sender are within fits
members_after-Judged list k members ack.Closed sender verdict.Correct deviation are within fits =
    put_in-filter members (length list.slots) sender are within fits
members_after-Judged list k members ack.First sender verdict.Correct deviation are within fits =
    put_in-filter members (length list.slots) sender are within fits
members_after-Judged list k members a sender verdict.Tentative deviation are within fits =
    put_in-filter members (length list.slots) sender are within fits
members_after-Judged list k members a sender verdict.Null deviation are within fits =
    taken_out-filter members (length list.slots) sender are
members_after-Judged list k members a sender verdict.Invalid deviation are within fits =
    taken_out-filter members (length list.slots) sender are
members_after-Judged list k members a sender verdict.Incorrect deviation are within fits =
    taken_out-filter members (length list.slots) sender are
members_after-Judged list k members a sender verdict.Denied deviation are within fits =
    taken_out-filter members (length list.slots) sender are
