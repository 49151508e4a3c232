-- Sets of a list's nodes: putting in and taking out gives such sets, and their members tell them apart.
use Rattle.safety_laws.proofs.Words.{◌≡◌, ◌≢◌, ℕ, ◌<◌, Bool, true, false, not, ◌&&◌, ◌||◌, List, length, refl, ap, sym}
use Rattle.safety_laws.proofs.Words.{◌∙◌, inl, inr, arith, subst, ◌==◌, cases_eq, eq-eqb, ne_eqb, false≢true, or-true}
use Rattle.safety_laws.proofs.Words.{most_nodes, has_node, with_node, without_node, Medl, IsValid, AreNodes, nodes-most}
use Rattle.safety_laws.proofs.Words.{Ack, candidates, AreCandidates, IsAboutListed, AreNodes-filter}
use Rattle.ttp_base.proofs.NodeSets.{has_node-with, has_node-without, same_sieve}
use Rattle.ttp_base.proofs.NodeLists.{with_node-filter, without_node-filter}
use Rattle.ttp_world.specs.declared.node.Ack.TheVariants as ack
use Rattle.ttp_world.specs.Reception.{candidate_sets}

pub AreNodes-with : (list : Medl) (members : List ℕ) (k : ℕ) → IsValid list → AreNodes list members
    → k < length list.slots → AreNodes list (with_node members k)
AreNodes-with list members k valid are node =
    subst (AreNodes list) (sym (ap (λ (s : List ℕ). with_node s k) are
    ∙ with_node-filter (has_node members) (length list.slots) k node (nodes-most list valid)))
    (AreNodes-filter list (λ j. (j == k) || has_node members j))

pub AreNodes-without : (list : Medl) (members : List ℕ) (k : ℕ) → AreNodes list members
    → AreNodes list (without_node members k)
AreNodes-without list members k are =
    subst (AreNodes list) (sym (ap (λ (s : List ℕ). without_node s k) are
    ∙ without_node-filter (has_node members) (length list.slots) k))
    (AreNodes-filter list (λ j. has_node members j && not (j == k)))

-- sets of a list's nodes that have the same of them are the same
pub AreNodes-same : (list : Medl) (one other : List ℕ) → AreNodes list one → AreNodes list other
    → ((j : ℕ) → j < length list.slots → has_node one j ≡ has_node other j) → one ≡ other
AreNodes-same list one other are are_too same =
    are ∙ same_sieve (has_node one) (has_node other) (length list.slots) same ∙ sym are_too

-- what is put in is there, and what is taken out is not

pub has_node-put_in : (members : List ℕ) (k : ℕ) → k < most_nodes → has_node (with_node members k) k ≡ true
has_node-put_in members k small = has_node-with members k k small ∙ ap (λ b. b || has_node members k) (eq-eqb k k refl)

pub has_node-taken_out : (members : List ℕ) (k : ℕ) → has_node (without_node members k) k ≡ false
has_node-taken_out members k = has_node-without members k k ∙ ap (λ b. not b && has_node members k) (eq-eqb k k refl)

-- so a set with a node is none without it
pub put_in≢taken_out : (one other : List ℕ) (k : ℕ) → k < most_nodes → with_node one k ≢ without_node other k
put_in≢taken_out one other k small same =
    false≢true (sym (has_node-taken_out other k) ∙ ap (λ (s : List ℕ). has_node s k) (sym same)
    ∙ has_node-put_in one k small)

-- The candidates of a node of the list for a sender of it are such sets.

AreCandidates-sets : (list : Medl) (a : Ack) (k : ℕ) (members : List ℕ) → IsValid list → k < length list.slots
    → IsAboutListed list a → AreNodes list members → AreCandidates list (candidate_sets a k members)
AreCandidates-sets list ack.Closed k members valid node about are = record { first = are; second = tt }
AreCandidates-sets list ack.First k members valid node about are = record {
  first = AreNodes-with list members k valid are node;
  second = AreNodes-without list members k are;
}
AreCandidates-sets list (ack.Doubt x) k members valid node about are = record {
  first = AreNodes-without list (with_node members k) x (AreNodes-with list members k valid are node);
  second = AreNodes-with list (without_node members k) x valid (AreNodes-without list members k are) about;
}

pub AreCandidates-node : (list : Medl) (a : Ack) (k sender : ℕ) (members : List ℕ) → IsValid list
    → k < length list.slots → sender < length list.slots → IsAboutListed list a → AreNodes list members
    → AreCandidates list (candidates a k members sender)
AreCandidates-node list a k sender members valid node owner about are =
    AreCandidates-sets list a k (with_node members sender) valid node about
    (AreNodes-with list members sender valid are owner)

-- Equal sets of a list's nodes, made in different ways.

-- One node.

pub has_node-with_other : (s : List ℕ) (k j : ℕ) → j < most_nodes → j ≢ k → has_node (with_node s k) j ≡ has_node s j
has_node-with_other s k j small other = has_node-with s k j small ∙ ap (λ b. b || has_node s j) (ne_eqb j k other)

pub has_node-without_other : (s : List ℕ) (k j : ℕ) → j ≢ k → has_node (without_node s k) j ≡ has_node s j
has_node-without_other s k j other = has_node-without s k j ∙ ap (λ b. not b && has_node s j) (ne_eqb j k other)

pub has_node-with_member : (s : List ℕ) (k j : ℕ) → j < most_nodes → has_node s j ≡ true
    → has_node (with_node s k) j ≡ true
has_node-with_member s k j small has = has_node-with s k j small ∙ ap (λ b. (j == k) || b) has ∙ or-true (j == k)

pub has_node-without_none : (s : List ℕ) (k j : ℕ) → has_node s j ≡ false → has_node (without_node s k) j ≡ false
has_node-without_none s k j none = has_node-without s k j ∙ ap (λ b. not (j == k) && b) none ∙ and_false (not (j == k))
  where
    and_false : (b : Bool) → (b && false) ≡ false
    and_false true = refl
    and_false false = refl

-- a node is in one of these only if it is in the other, by whether it is k
module _ (list : Medl) (valid : IsValid list) where
  small : (j : ℕ) → j < length list.slots → j < most_nodes
  small j node = omega (arith, node, nodes-most list valid)

  -- putting in a member
  pub with-member : (s : List ℕ) (k : ℕ) → AreNodes list s → k < length list.slots → has_node s k ≡ true
      → with_node s k ≡ s
  with-member s k are node has =
      AreNodes-same list (with_node s k) s (AreNodes-with list s k valid are node) are (λ j less. elim (cases_eq j k) [
        | inl same ↦
            has_node-with_member s k j (small j less) (ap (has_node s) same ∙ has) ∙ sym (ap (has_node s) same ∙ has)
        | inr other ↦ has_node-with_other s k j (small j less) other
      ])

  -- putting in and taking out again one that is not there
  pub without-with : (s : List ℕ) (k : ℕ) → AreNodes list s → k < length list.slots → has_node s k ≡ false
      → without_node (with_node s k) k ≡ s
  without-with s k are node none =
      AreNodes-same list (without_node (with_node s k) k) s
      (AreNodes-without list (with_node s k) k (AreNodes-with list s k valid are node)) are
      (λ j less. elim (cases_eq j k) [
        | inl same ↦
            has_node-without (with_node s k) k j ∙ ap (λ b. not b && has_node (with_node s k) j) (eq-eqb j k same)
            ∙ sym (ap (has_node s) same ∙ none)
        | inr other ↦ has_node-without_other (with_node s k) k j other ∙ has_node-with_other s k j (small j less) other
      ])

  -- taking out and putting in again
  pub with-without : (s : List ℕ) (k : ℕ) → AreNodes list s → k < length list.slots
      → with_node (without_node s k) k ≡ with_node s k
  with-without s k are node =
      AreNodes-same list (with_node (without_node s k) k) (with_node s k)
      (AreNodes-with list (without_node s k) k valid (AreNodes-without list s k are) node)
      (AreNodes-with list s k valid are node) (λ j less. elim (cases_eq j k) [
        | inl same ↦
            has_node-with (without_node s k) k j (small j less)
            ∙ ap (λ b. b || has_node (without_node s k) j) (eq-eqb j k same)
            ∙ sym (has_node-with s k j (small j less) ∙ ap (λ b. b || has_node s j) (eq-eqb j k same))
        | inr other ↦
            has_node-with_other (without_node s k) k j (small j less) other ∙ has_node-without_other s k j other
            ∙ sym (has_node-with_other s k j (small j less) other)
      ])

  -- putting in one and taking out another, in either order
  pub without-with_other : (s : List ℕ) (k y : ℕ) → AreNodes list s → y < length list.slots → y ≢ k
      → without_node (with_node s y) k ≡ with_node (without_node s k) y
  without-with_other s k y are node apart =
      AreNodes-same list (without_node (with_node s y) k) (with_node (without_node s k) y)
      (AreNodes-without list (with_node s y) k (AreNodes-with list s y valid are node))
      (AreNodes-with list (without_node s k) y valid (AreNodes-without list s k are) node)
      (λ j less. elim (cases_eq j k) [
        | inl same ↦
            let other : j ≢ y = λ eq. apart (sym eq ∙ same) in
            has_node-without (with_node s y) k j ∙ ap (λ b. not b && has_node (with_node s y) j) (eq-eqb j k same)
            ∙ sym (has_node-with_other (without_node s k) y j (small j less) other
            ∙ has_node-without s k j ∙ ap (λ b. not b && has_node s j) (eq-eqb j k same))
        | inr other ↦
            has_node-without_other (with_node s y) k j other ∙ has_node-with s y j (small j less)
            ∙ ap (λ b. (j == y) || b) (sym (has_node-without_other s k j other))
            ∙ sym (has_node-with (without_node s k) y j (small j less))
      ])

  -- putting in two, in either order
  pub with-with : (s : List ℕ) (k y : ℕ) → AreNodes list s → k < length list.slots → y < length list.slots
      → with_node (with_node s y) k ≡ with_node (with_node s k) y
  with-with s k y are node node_too =
      AreNodes-same list (with_node (with_node s y) k) (with_node (with_node s k) y)
      (AreNodes-with list (with_node s y) k valid (AreNodes-with list s y valid are node_too) node)
      (AreNodes-with list (with_node s k) y valid (AreNodes-with list s k valid are node) node_too)
      (λ j less. has_node-with (with_node s y) k j (small j less)
      ∙ ap (λ b. (j == k) || b) (has_node-with s y j (small j less)) ∙ turned (j == k) (j == y) (has_node s j)
      ∙ sym (has_node-with (with_node s k) y j (small j less)
      ∙ ap (λ b. (j == y) || b) (has_node-with s k j (small j less))))
    where
      turned : (a b c : Bool) → (a || (b || c)) ≡ (b || (a || c))
      turned true b c = sym (or-true b)
      turned false b c = refl
