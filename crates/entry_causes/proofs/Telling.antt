-- Nodes that tell, and of differences the one that was said first.
use Rattle.std.proofs.Common.{◌≡◌, ℕ, Bool, true, false, cond, List, [], ◌∷◌}
use Rattle.std.proofs.Common.{◌++◌, None, Some, length, refl, ap, sym, ◌∙◌}
use Rattle.std.proofs.Common.{◌<◌, ◌≤◌, ◌&&◌, arith, filter, map, not, option_map, subst}
use Rattle.std.specs.Prelude.{◌==◌}
use Rattle.causes.specs.Members.{Difference, difference_of, difference_reason, doubt_reason, earliest, is_earlier}
use Rattle.causes.specs.Members.{is_one_of, members_due, members_reason, members_reason_of, members_sent, telling_of}
use Rattle.causes.specs.RunSlots.{RunSlot, RunSlots, doubted_in, past_in}
use Rattle.entry_causes.specs.Differences.{IfDoubted, said_first}
use Rattle.entry_causes.proofs.FromBelow.{slot_in-list}
use Rattle.run_rows.specs.Rows.{slot_in}
use Rattle.ttp_base.proofs.NodeLists.{without_node-filter}
use Rattle.ttp_base.specs.NodeSet.{below, has_node, without_node}
use Rattle.ttp_world.proofs.WorldFacts.{AreNodes-filter}
use Rattle.ttp_world.specs.Membership.{AreNodes}
use Rattle.ttp_world.specs.declared.medl.Medl.{Medl}
use Rattle.ttp_world.specs.declared.node.Ack.{Ack}
use Rattle.ttp_world.specs.declared.script.Script.{Script}
use Rattle.ttp_world.specs.declared.node.Ack.TheVariants as ack

-- With a closed acknowledgement.

pub telling-one : (k : ℕ) (nodes : List ℕ) → length nodes ≡ 1 → nodes ≡ telling_of k ack.Closed nodes
telling-one k [] one = absurd (omega (arith, one))
telling-one k (j ∷ []) one = refl
telling-one k (j ∷ i ∷ others) one = absurd (omega (arith, one))

pub telling-several : (k : ℕ) (nodes : List ℕ) → (length nodes ≡ 1 → ⊥)
    → without_node nodes k ≡ telling_of k ack.Closed nodes
telling-several k [] other = refl
telling-several k (j ∷ []) other = absurd (other refl)
telling-several k (j ∷ i ∷ others) other = refl

-- One difference more.

abbrev pub earlier_of : Difference → Difference → Difference
earlier_of d other = cond (is_earlier other.said d.said) other d

either : (b : Bool) (d o y : Difference) (others : List Difference)
    → earliest o (others ++ y ∷ []) ≡ earlier_of (earliest o others) y
    → earliest d (others ++ y ∷ []) ≡ earlier_of (earliest d others) y
    → cond b (earliest o (others ++ y ∷ [])) (earliest d (others ++ y ∷ []))
    ≡ earlier_of (cond b (earliest o others) (earliest d others)) y
either true d o y others by_other by_known = by_other
either false d o y others by_other by_known = by_known

earliest-next : (d : Difference) (others : List Difference) (y : Difference)
    → earliest d (others ++ y ∷ []) ≡ earlier_of (earliest d others) y
earliest-next d [] y = refl
earliest-next d (o ∷ others) y =
    either (is_earlier o.said d.said) d o y others (earliest-next o others y) (earliest-next d others y)

pub said_first-one : (others : List Difference) (y : Difference) → said_first others ≡ None
    → said_first (others ++ y ∷ []) ≡ Some y
said_first-one [] y none = refl
said_first-one (d ∷ others) y none = absurd cc

pub said_first-next : (others : List Difference) (d y : Difference) → said_first others ≡ Some d
    → said_first (others ++ y ∷ []) ≡ Some (earlier_of d y)
said_first-next [] d y is = absurd cc
said_first-next (o ∷ others) d y is =
    ap Some (earliest-next o others y) ∙ ap (option_map (λ (known : Difference). earlier_of known y)) is

-- Those that tell are nodes of the list.

without-nodes : (list : Medl) (nodes : List ℕ) (k : ℕ) → AreNodes list nodes → AreNodes list (without_node nodes k)
without-nodes list nodes k are =
    let sieved =
    ap (λ (xs : List ℕ). without_node xs k) are ∙ without_node-filter (has_node nodes) (length list.slots) k in
    subst (AreNodes list) (sym sieved) (AreNodes-filter list (λ j. has_node nodes j && not (j == k)))

pub telling-nodes : (list : Medl) (k : ℕ) (a : Ack) (nodes : List ℕ) → AreNodes list nodes
    → AreNodes list (telling_of k a nodes)
telling-nodes list k ack.Closed [] are = without-nodes list [] k are
telling-nodes list k ack.Closed (j ∷ []) are = are
telling-nodes list k ack.Closed (j ∷ i ∷ others) are = without-nodes list (j ∷ i ∷ others) k are
telling-nodes list k ack.First nodes are = without-nodes list nodes k are
telling-nodes list k (ack.Doubt x) nodes are =
    without-nodes list (without_node nodes k) x (without-nodes list nodes k are)

pub doubt-within : (a : Ack) (n m : ℕ) → n ≤ m → IfDoubted a (λ x. x < n) → IfDoubted a (λ x. x < m)
doubt-within ack.Closed n m few doubts = tt
doubt-within ack.First n m few doubts = tt
doubt-within (ack.Doubt x) n m few doubts = omega (arith, few, doubts)

-- The reason by the one that was said first.

pub reason-some : (p k : ℕ) (s : RunSlot) (before : RunSlots) (others : List Difference) (d : Difference)
    → said_first others ≡ Some d
    → members_reason_of p k s before others ≡ difference_reason before d
reason-some p k s before [] d is = absurd cc
reason-some p k s before (o ∷ others) d is =
    let first : earliest o others ≡ d = cc in ap (difference_reason before) first

pub reason-none : (p k : ℕ) (s : RunSlot) (before : RunSlots) (others : List Difference) → said_first others ≡ None
    → members_reason_of p k s before others
    ≡ doubt_reason p k before (has_node (members_sent p s) k) (doubted_in k s)
reason-none p k s before [] is = refl
reason-none p k s before (o ∷ others) is = absurd cc

module _ (list : Medl) (script : Script) (slot p k nodes : ℕ) where
  pub reason-told : (before : RunSlots) (a : Ack) (sent due differ telling : List ℕ)
      → sent ≡ members_sent p (slot_in list script slot) → due ≡ members_due k (slot_in list script slot)
      → nodes ≡ length list.slots → a ≡ (past_in k (slot_in list script slot)).ack
      → differ ≡ filter (λ j. is_one_of (has_node sent j) (has_node due j)) (below nodes)
      → telling ≡ telling_of k a differ
      → members_reason_of p k (slot_in list script slot) before
      (map (λ j. difference_of p k before (has_node sent j) j) telling) ≡ members_reason p k (slot_in list script slot)
      before
  reason-told before a sent due differ telling is_sent is_due count acks differs tells =
      let listed : nodes ≡ length (slot_in list script slot).begun.list.slots =
      count ∙ ap (λ (l : Medl). length l.slots) (sym (slot_in-list list script slot)) in
      let set =
      differs ∙ (λ i. filter (λ j. is_one_of (has_node (is_sent i) j) (has_node (is_due i) j)) (below (listed i))) in
      let those = tells ∙ (λ i. telling_of k (acks i) (set i)) in
      (λ i. members_reason_of p k (slot_in list script slot) before
      (map (λ j. difference_of p k before (has_node (is_sent i) j) j) (those i)))
