-- A node whose frame is not acknowledged stays so while no frame has it among its members, or each has one that it
-- lacks; and another's slot brings no node but its owner into what a node holds.
use Rattle.safety_laws.proofs.Words.{◌≡◌, ◌≢◌, ℕ, ◌<◌, ℤ, pos, Bool, true, false, cond, List, length, refl, ap, sym}
use Rattle.safety_laws.proofs.Words.{◌∙◌, ◌⊎◌, inl, inr, subst, arith, false≢true, most_nodes, has_node, with_node, Ack}
use Rattle.safety_laws.proofs.Words.{Verdict, is_correct, settled_members, judged_members, ack_answered, candidates}
use Rattle.safety_laws.proofs.Words.{verdict_of_view, nodes-most, IsUnanswered, HearsNoAnswer, Lacks, HasThird, Outside}
use Rattle.safety_laws.proofs.Words.{NoFrame, NodeSlot, next_past, owner_of, candidates_of, is_second, HasJustLeft}
use Rattle.safety_laws.proofs.Words.{IsJudgedAs, IsJudging, HearsMembers}
use Rattle.ttp_world.specs.declared.node.Ack.TheVariants as ack
use Rattle.ttp_world.specs.declared.node.ChannelView.TheVariants as view
use Rattle.ttp_world.specs.declared.node.Reason.TheVariants as reason
use Rattle.ttp_world.specs.declared.node.Verdict.TheVariants as verdict
use Rattle.safety_laws.specs.Groups.{StaysUnanswered}
use Rattle.safety_laws.proofs.GroupSets.{has_node-with_other, has_node-without_other, has_node-without_none}
use Rattle.safety_laws.proofs.GroupSets.{has_node-put_in}
use Rattle.safety_laws.proofs.Verdicts.{view-later, entry-by_view, judged-outside, judged-none, judged-by_verdict}
use Rattle.safety_laws.proofs.Verdicts.{judged-whatever}

-- The acknowledgement.

-- a verdict that is not correct leaves it open
answered-unanswered : (k owner : ℕ) (a : Ack) (v : Verdict) → IsUnanswered k a → is_correct v ≡ false → owner ≢ k
    → IsUnanswered k (ack_answered a v owner)
answered-unanswered k owner ack.Closed v unanswered wrong other = absurd unanswered
answered-unanswered k owner _ verdict.Tentative unanswered wrong other = other
answered-unanswered k owner _ verdict.Correct unanswered wrong other = cc
answered-unanswered k owner _ _ unanswered wrong other = unanswered

pub stays-judged : (x : NodeSlot) (v : Verdict) (deviation : ℤ) → IsJudging x → IsUnanswered x.node x.past.ack
    → is_correct v ≡ false → IsJudgedAs x v deviation → StaysUnanswered x
stays-judged x v deviation is unanswered wrong judged = record {
  verdict = v;
  deviation = deviation;
  judged = judged;
  wrong = wrong;
  ack = subst (IsUnanswered x.node) (sym judged.ack)
      (answered-unanswered x.node (owner_of x) x.past.ack v unanswered wrong is.other);
}

-- The first candidate has the node itself.
own_in_first : (k owner : ℕ) (members : List ℕ) (a : Ack) → k < most_nodes → IsUnanswered k a
    → has_node (candidates a k members owner).first k ≡ true
own_in_first k owner members ack.Closed small unanswered = absurd unanswered
own_in_first k owner members ack.First small unanswered = has_node-put_in (with_node members owner) k small
own_in_first k owner members (ack.Doubt y) small unanswered =
    has_node-without_other (with_node (with_node members owner) k) y k (λ same. unanswered (sym same))
    ∙ has_node-put_in (with_node members owner) k small

-- and no third node that the node lacks
third-apart : (k owner p : ℕ) (members : List ℕ) (a : Ack) → p < most_nodes → p ≢ k → p ≢ owner
    → has_node members p ≡ false → IsUnanswered k a → has_node (candidates a k members owner).first p ≡ false
third-apart k owner p members ack.Closed small other apart none unanswered = absurd unanswered
third-apart k owner p members ack.First small other apart none unanswered =
    has_node-with_other (with_node members owner) k p small other
    ∙ has_node-with_other members owner p small apart ∙ none
third-apart k owner p members (ack.Doubt y) small other apart none unanswered =
    has_node-without_none (with_node (with_node members owner) k) y p
    (has_node-with_other (with_node members owner) k p small other
    ∙ has_node-with_other members owner p small apart ∙ none)

-- so a frame without the node, or with the third one, is not correct
wrong_view : (second : Bool) (a : Ack) → is_correct (verdict_of_view (cond second view.Second view.Other) a) ≡ false
wrong_view true ack.Closed = refl
wrong_view true _ = refl
wrong_view false a = refl

stays-apart : (x : NodeSlot) (sender : ℕ) (members : List ℕ) → IsJudging x → IsUnanswered x.node x.past.ack
    → HearsMembers x sender members → members ≢ (candidates_of x).first
    → StaysUnanswered x ⊎ HasJustLeft (next_past x) reason.Denied (owner_of x)
stays-apart x sender members is unanswered hears apart =
    elim (judged-by_verdict x _ (x.hearing.deviation sender) is
    (entry-by_view x sender members is hears _ (view-later (candidates_of x) members apart))) [
      | inl judged ↦
          inl (stays-judged x _ (x.hearing.deviation sender) is unanswered
          (wrong_view (is_second (candidates_of x).second members) x.past.ack) judged)
      | inr left ↦ inr left
    ]

pub stays-unanswered : (x : NodeSlot) → IsJudging x → IsUnanswered x.node x.past.ack → HearsNoAnswer x
    → StaysUnanswered x ⊎ HasJustLeft (next_past x) reason.Denied (owner_of x)
stays-unanswered x is unanswered (Lacks sender members hears lacks) =
    stays-apart x sender members is unanswered hears
    (λ same. false≢true (sym lacks ∙ ap (λ (s : List ℕ). has_node s x.node) same
    ∙ own_in_first x.node (owner_of x) x.past.members x.past.ack (omega (arith, is.node, nodes-most x.list is.valid))
    unanswered))
stays-unanswered x is unanswered (HasThird sender p members hears third has) =
    stays-apart x sender members is unanswered hears (λ same. false≢true (sym (third-apart x.node (owner_of x) p
    x.past.members x.past.ack (omega (arith, third.listed, nodes-most x.list is.valid)) third.not_self third.not_owner
    third.held unanswered) ∙ sym (ap (λ (s : List ℕ). has_node s p) same) ∙ has))
stays-unanswered x is unanswered (Outside sender hears) =
    inl (stays-judged x verdict.Invalid (x.hearing.deviation sender) is unanswered refl
    (judged-outside x sender is hears))
stays-unanswered x is unanswered (NoFrame none) = elim (judged-none x is none) [
  | inl null ↦ inl (stays-judged x verdict.Null (pos 0) is unanswered refl null)
  | inr invalid ↦ inl (stays-judged x verdict.Invalid (pos 0) is unanswered refl invalid)
]

-- What is not held, but for the owner.

settled-none : (members : List ℕ) (a : Ack) (j : ℕ) → has_node members j ≡ false
    → has_node (settled_members members a) j ≡ false
settled-none members (ack.Doubt y) j none = has_node-without_none members y j none
settled-none members _ j none = none

judged-none_held : (members : List ℕ) (a : Ack) (v : Verdict) (owner j : ℕ) → j < most_nodes → j ≢ owner
    → has_node members j ≡ false → has_node (judged_members members a v owner) j ≡ false
judged-none_held members a verdict.Correct owner j small other none =
    has_node-with_other (settled_members members a) owner j small other ∙ settled-none members a j none
judged-none_held members a verdict.Tentative owner j small other none =
    has_node-with_other members owner j small other ∙ none
judged-none_held members a _ owner j small other none = has_node-without_none members owner j none

pub not_held-judging : (x : NodeSlot) (j : ℕ) → IsJudging x → j < length x.list.slots → j ≢ owner_of x
    → has_node x.past.members j ≡ false → has_node (next_past x).members j ≡ false
not_held-judging x j is listed other none = elim (judged-whatever x is) [
  | inl some ↦
      ap (λ (s : List ℕ). has_node s j) some.1.1.members
      ∙ judged-none_held x.past.members x.past.ack some.0 (owner_of x) j
      (omega (arith, listed, nodes-most x.list is.valid)) other none
  | inr left ↦ ap (λ (s : List ℕ). has_node s j) left.members
]
