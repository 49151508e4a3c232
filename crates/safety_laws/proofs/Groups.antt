-- A node that holds a group goes on doing so, with the slot's owner put in or taken out.
use Rattle.safety_laws.proofs.Words.{◌≡◌, ◌≢◌, ℕ, ◌<◌, ℤ, Bool, true, false, List, length, Option, Some, refl, ap, sym}
use Rattle.safety_laws.proofs.Words.{◌∙◌, ◌⊎◌, inl, inr, subst, arith, IsTrue, bytes_eq, false≢true, same_Some}
use Rattle.safety_laws.proofs.Words.{bytes_eq-Decides, most_nodes, has_node, with_node, without_node, Ack, Verdict}
use Rattle.safety_laws.proofs.Words.{is_open, settled_members, judged_members, ack_answered, AreNodes, is_accepted}
use Rattle.safety_laws.proofs.Words.{IsValid, Medl, NodePast, Candidates, candidates, nodes-most, held_with, IsNotAbout}
use Rattle.safety_laws.proofs.Words.{HoldsGroup, NodeSlot, next_past, owner_of, candidates_of, StandsBy, IsJudgedAs}
use Rattle.safety_laws.proofs.Words.{sent_standing, IsAboutListed, IsJudging, HearsMembers, IsAtOwnSlot}
use Rattle.ttp_world.specs.declared.node.Ack.TheVariants as ack
use Rattle.ttp_world.specs.declared.node.Entry.TheVariants as entry
use Rattle.ttp_world.specs.declared.node.Verdict.TheVariants as verdict
use Rattle.safety_laws.specs.Groups.{IsAboutOther}
use Rattle.safety_laws.proofs.GroupSets.{has_node-with_other, has_node-without_other, has_node-with_member}
use Rattle.safety_laws.proofs.GroupSets.{has_node-without_none, with-member, without-with, with-without}
use Rattle.safety_laws.proofs.GroupSets.{without-with_other, with-with, AreNodes-with, AreNodes-without}
use Rattle.safety_laws.proofs.GroupSets.{has_node-put_in, has_node-taken_out}
use Rattle.safety_laws.proofs.Verdicts.{judged-correct, judged-incorrect, judged-tentative}

-- The candidates of a node that holds a group.

module _ (list : Medl) (valid : IsValid list) (group : List ℕ) (k owner : ℕ) (nodes : AreNodes list group)
    (node : k < length list.slots) (owned : owner < length list.slots) where
  -- the first is the group with the slot's owner
  first-group : (a : Ack) → IsAboutListed list a → IsAboutOther group a → (IsTrue (is_open a) → has_node group k ≡ true)
      → IsNotAbout owner a → (candidates a k (held_with group a) owner).first ≡ with_node group owner
  first-group ack.Closed listed other own apart = refl
  first-group ack.First listed other own apart =
      with-member list valid (with_node group owner) k (AreNodes-with list group owner valid nodes owned) node
      (has_node-with_member group owner k (omega (arith, node, nodes-most list valid)) (own refl))
  first-group (ack.Doubt y) listed other own apart =
      let held = with_node group owner in
      let are = AreNodes-with list group owner valid nodes owned in
      let in_held = has_node-with_member group owner k (omega (arith, node, nodes-most list valid)) (own refl) in
      let none : has_node held y ≡ false =
      has_node-with_other group owner y (omega (arith, listed, nodes-most list valid)) apart ∙ other in
      ap (λ (s : List ℕ). without_node (with_node s k) y) (with-with list valid group owner y nodes owned listed)
      ∙ ap (λ (s : List ℕ). without_node s y)
      (with-member list valid (with_node held y) k (AreNodes-with list held y valid are listed) node
      (has_node-with_member held y k (omega (arith, node, nodes-most list valid)) in_held))
      ∙ without-with list valid held y are listed none

  -- a member that is not the node itself, or any member where the node's frame is acknowledged, is in each of them

  in_first : (a : Ack) (p : ℕ) → IsAboutOther group a → p < length list.slots → has_node group p ≡ true
      → has_node (candidates a k (held_with group a) owner).first p ≡ true
  in_first ack.Closed p other listed has =
      has_node-with_member group owner p (omega (arith, listed, nodes-most list valid)) has
  in_first ack.First p other listed has =
      let few : p < most_nodes = omega (arith, listed, nodes-most list valid) in
      has_node-with_member (with_node group owner) k p few (has_node-with_member group owner p few has)
  in_first (ack.Doubt y) p other listed has =
      let few : p < most_nodes = omega (arith, listed, nodes-most list valid) in
      has_node-without_other (with_node (with_node (with_node group y) owner) k) y p
      (λ same. false≢true (sym other ∙ ap (has_node group) (sym same) ∙ has))
      ∙ has_node-with_member (with_node (with_node group y) owner) k p few
      (has_node-with_member (with_node group y) owner p few (has_node-with_member group y p few has))

  in_second : (a : Ack) (p : ℕ) (second : List ℕ) → p < length list.slots → has_node group p ≡ true
      → (p ≢ k) ⊎ (a ≡ ack.Closed) → (candidates a k (held_with group a) owner).second ≡ Some second
      → has_node second p ≡ true
  in_second ack.Closed p second listed has where_ is = cc
  in_second ack.First p second listed has (inr closed) is = cc
  in_second ack.First p second listed has (inl other) is =
      let few : p < most_nodes = omega (arith, listed, nodes-most list valid) in
      ap (λ (s : List ℕ). has_node s p) (sym (same_Some _ second is))
      ∙ has_node-without_other (with_node group owner) k p other ∙ has_node-with_member group owner p few has
  in_second (ack.Doubt y) p second listed has (inr closed) is = cc
  in_second (ack.Doubt y) p second listed has (inl other) is =
      let few : p < most_nodes = omega (arith, listed, nodes-most list valid) in
      let held = with_node (with_node group y) owner in
      ap (λ (s : List ℕ). has_node s p) (sym (same_Some _ second is))
      ∙ has_node-with_member (without_node held k) y p few (has_node-without_other held k p other
      ∙ has_node-with_member (with_node group y) owner p few (has_node-with_member group y p few has))

-- What a verdict makes of a group.

settled-group : (list : Medl) (group : List ℕ) (a : Ack) → IsValid list → AreNodes list group → IsAboutListed list a
    → IsAboutOther group a → settled_members (held_with group a) a ≡ group
settled-group list group (ack.Doubt y) valid nodes listed other = without-with list valid group y nodes listed other
settled-group list group _ valid nodes listed other = refl

answered-correct : (a : Ack) (owner : ℕ) → ack_answered a verdict.Correct owner ≡ ack.Closed
answered-correct ack.Closed owner = refl
answered-correct _ owner = refl

answered-wrong : (a : Ack) (v : Verdict) (owner : ℕ) → is_accepted v ≡ false → ack_answered a v owner ≡ a
answered-wrong ack.Closed v owner wrong = refl
answered-wrong _ verdict.Correct owner wrong = cc
answered-wrong _ verdict.Tentative owner wrong = cc
answered-wrong _ _ owner wrong = refl

taken_out-wrong : (members : List ℕ) (a : Ack) (v : Verdict) (owner : ℕ) → is_accepted v ≡ false
    → judged_members members a v owner ≡ without_node members owner
taken_out-wrong members a verdict.Correct owner wrong = cc
taken_out-wrong members a verdict.Tentative owner wrong = cc
taken_out-wrong members a _ owner wrong = refl

taken_out-held : (list : Medl) (group : List ℕ) (a : Ack) (owner : ℕ) → IsValid list → AreNodes list group
    → IsAboutListed list a → IsNotAbout owner a
    → without_node (held_with group a) owner ≡ held_with (without_node group owner) a
taken_out-held list group ack.Closed owner valid nodes listed apart = refl
taken_out-held list group ack.First owner valid nodes listed apart = refl
taken_out-held list group (ack.Doubt y) owner valid nodes listed apart =
    without-with_other list valid group owner y nodes listed apart

still_other : (group : List ℕ) (a : Ack) (owner : ℕ) → IsAboutOther group a → IsAboutOther (without_node group owner) a
still_other group (ack.Doubt y) owner other = has_node-without_none group owner y other
still_other group _ owner other = tt

-- by the acknowledgement after the slot
pub holds-by : (list : Medl) (k : ℕ) (group : List ℕ) (past : NodePast) (a : Ack) → past.ack ≡ a → AreNodes list group
    → past.members ≡ held_with group a → (is_open a ≡ true → has_node group k ≡ true) → IsAboutOther group a
    → HoldsGroup list k group past
holds-by list k group past a ack_is nodes members own other = record {
  nodes = nodes;
  members = members ∙ ap (held_with group) (sym ack_is);
  own = λ opened. own (ap is_open (sym ack_is) ∙ opened);
  doubted = subst (IsAboutOther group) (sym ack_is) other;
}

-- The slot of a node that holds a group.

module _ (x : NodeSlot) (group : List ℕ) (is : IsJudging x) (holds : HoldsGroup x.list x.node group x.past) where
  candidates-held : candidates_of x ≡ candidates x.past.ack x.node (held_with group x.past.ack) (owner_of x)
  candidates-held = ap (λ (s : List ℕ). candidates x.past.ack x.node s (owner_of x)) holds.members

  -- the frame of an owner that holds the same group is correct
  pub correct-group : (sender : ℕ) → IsNotAbout (owner_of x) x.past.ack
      → HearsMembers x sender (with_node group (owner_of x)) → IsJudgedAs x verdict.Correct (x.hearing.deviation sender)
  correct-group sender apart hears =
      judged-correct x sender (with_node group (owner_of x)) is hears
      (sym (ap (λ (c : Candidates). c.first) candidates-held
      ∙ first-group x.list is.valid group x.node (owner_of x) holds.nodes is.node is.owner x.past.ack is.doubted
      holds.doubted holds.own apart))

  -- after a correct frame it holds the group with the owner, and no frame of its own is open
  pub holds-correct : (deviation : ℤ) → IsJudgedAs x verdict.Correct deviation
      → HoldsGroup x.list x.node (with_node group (owner_of x)) (next_past x) × ((next_past x).ack ≡ ack.Closed)
  holds-correct deviation judged =
      let closed = judged.ack ∙ answered-correct x.past.ack (owner_of x) in (
        holds-by x.list x.node (with_node group (owner_of x)) (next_past x) ack.Closed closed
            (AreNodes-with x.list group (owner_of x) is.valid holds.nodes is.owner) (judged.members
            ∙ ap (λ (s : List ℕ). with_node (settled_members s x.past.ack) (owner_of x)) holds.members
            ∙ ap (λ (s : List ℕ). with_node s (owner_of x))
            (settled-group x.list group x.past.ack is.valid holds.nodes is.doubted holds.doubted))
            (λ opened. absurd (false≢true opened)) tt,
        closed,
      )

  -- after any other but a tentative one it holds the group without the owner, and what was open still is
  pub holds-wrong : (v : Verdict) (deviation : ℤ) → IsJudgedAs x v deviation → is_accepted v ≡ false
      → IsNotAbout (owner_of x) x.past.ack
      → HoldsGroup x.list x.node (without_node group (owner_of x)) (next_past x) × ((next_past x).ack ≡ x.past.ack)
  holds-wrong v deviation judged wrong apart =
      let same = judged.ack ∙ answered-wrong x.past.ack v (owner_of x) wrong in (
        holds-by x.list x.node (without_node group (owner_of x)) (next_past x) x.past.ack same
            (AreNodes-without x.list group (owner_of x) holds.nodes)
            (judged.members ∙ taken_out-wrong x.past.members x.past.ack v (owner_of x) wrong
            ∙ ap (λ (s : List ℕ). without_node s (owner_of x)) holds.members
            ∙ taken_out-held x.list group x.past.ack (owner_of x) is.valid holds.nodes is.doubted apart)
            (λ opened. has_node-without_other group (owner_of x) x.node (λ eq. is.other (sym eq)) ∙ holds.own opened)
            (still_other group x.past.ack (owner_of x) holds.doubted),
        same,
      )

  -- after a tentative verdict it holds the group without the owner, and doubts the owner
  pub holds-tentative : (deviation : ℤ) → IsJudgedAs x verdict.Tentative deviation → x.past.ack ≡ ack.First
      → HoldsGroup x.list x.node (without_node group (owner_of x)) (next_past x)
      × ((next_past x).ack ≡ ack.Doubt (owner_of x))
  holds-tentative deviation judged first =
      let doubts = judged.ack ∙ ap (λ (a : Ack). ack_answered a verdict.Tentative (owner_of x)) first in (
        holds-by x.list x.node (without_node group (owner_of x)) (next_past x) (ack.Doubt (owner_of x)) doubts
            (AreNodes-without x.list group (owner_of x) holds.nodes) (judged.members
            ∙ ap (λ (s : List ℕ). with_node s (owner_of x)) (holds.members ∙ ap (held_with group) first)
            ∙ sym (with-without x.list is.valid group (owner_of x) holds.nodes is.owner))
            (λ opened. has_node-without_other group (owner_of x) x.node (λ eq. is.other (sym eq))
            ∙ holds.own (ap is_open first)) (has_node-taken_out group (owner_of x)),
        doubts,
      )

  -- A frame that lacks a member of the group is incorrect, where that is not the node itself or its own frame is
  -- acknowledged.
  pub incorrect-group : (sender p : ℕ) (members : List ℕ) → p < length x.list.slots → has_node group p ≡ true
      → (p ≢ x.node) ⊎ (x.past.ack ≡ ack.Closed) → has_node members p ≡ false → HearsMembers x sender members
      → IsJudgedAs x verdict.Incorrect (x.hearing.deviation sender)
  incorrect-group sender p members listed has other lacks hears =
      judged-incorrect x sender members is hears (λ same. false≢true (sym lacks ∙ ap (λ (s : List ℕ). has_node s p) same
      ∙ ap (λ (c : Candidates). has_node c.first p) candidates-held
      ∙ in_first x.list is.valid group x.node (owner_of x) holds.nodes is.node is.owner x.past.ack p holds.doubted
      listed has)) (λ same. false≢true (sym lacks
      ∙ in_second x.list is.valid group x.node (owner_of x) holds.nodes is.node is.owner x.past.ack p members listed has
      other (ap (λ (c : Candidates). c.second) (sym candidates-held) ∙ same)))

  -- One that lacks the node itself, which waits for its first successor, is incorrect or tentative.
  pub lacked-group : (sender : ℕ) (members : List ℕ) → x.past.ack ≡ ack.First → has_node members x.node ≡ false
      → HearsMembers x sender members → IsJudgedAs x verdict.Incorrect (x.hearing.deviation sender)
      ⊎ IsJudgedAs x verdict.Tentative (x.hearing.deviation sender)
  lacked-group sender members first lacks hears = by (bytes_eq members held_out) refl
    where
      held_out : List ℕ
      held_out = without_node (with_node x.past.members (owner_of x)) x.node

      not_first : members ≢ (candidates_of x).first
      not_first same =
          false≢true (sym lacks ∙ ap (λ (s : List ℕ). has_node s x.node) same
          ∙ ap (λ (a : Ack). has_node (candidates a x.node x.past.members (owner_of x)).first x.node) first
          ∙ has_node-put_in (with_node x.past.members (owner_of x)) x.node
          (omega (arith, is.node, nodes-most x.list is.valid)))

      by : (same : Bool) → bytes_eq members held_out ≡ same
          → IsJudgedAs x verdict.Incorrect (x.hearing.deviation sender)
          ⊎ IsJudgedAs x verdict.Tentative (x.hearing.deviation sender)
      by true same = inr (judged-tentative x sender members is hears first ((bytes_eq-Decides members held_out).0 same))
      by false other =
          inl (judged-incorrect x sender members is hears not_first (λ some. false≢true (sym other
          ∙ (bytes_eq-Decides members held_out).1 (sym (same_Some held_out members
          (sym (ap (λ (a : Ack). (candidates a x.node x.past.members (owner_of x)).second) first) ∙ some))))))

-- A node that sends holds the group with itself, and waits for its first successor.
pub holds-sent : (x : NodeSlot) (group : List ℕ) (message : Option ℕ) → IsAtOwnSlot x
    → HoldsGroup x.list x.node group x.past → x.past.ack ≡ ack.Closed
    → StandsBy (next_past x) (entry.Sent message) (sent_standing x message)
    → HoldsGroup x.list x.node (with_node group x.node) (next_past x)
holds-sent x group message is holds closed stands =
    holds-by x.list x.node (with_node group x.node) (next_past x) ack.First stands.ack
    (AreNodes-with x.list group x.node is.valid holds.nodes is.node)
    (stands.members ∙ ap (λ (s : List ℕ). with_node s x.node) (holds.members ∙ ap (held_with group) closed))
    (λ opened. has_node-put_in group x.node (omega (arith, is.node, nodes-most x.list is.valid))) tt
