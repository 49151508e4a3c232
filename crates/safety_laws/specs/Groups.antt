-- Nodes that hold one group for members, and nodes whose own frame is not answered.
use Rattle.std.specs.Prelude.{◌≡◌, ◌≢◌, ℕ, ◌<◌, ℤ, false, true, List, length, IsTrue}
use Rattle.ttp_base.specs.NodeSet.{has_node, with_node}
use Rattle.ttp_world.specs.declared.medl.Medl.{Medl}
use Rattle.ttp_world.specs.declared.node.Ack.{Ack}
use Rattle.ttp_world.specs.declared.node.Ack.TheVariants as ack
use Rattle.ttp_world.specs.declared.node.Verdict.{Verdict}
use Rattle.ttp_world.specs.Acknowledgement.{is_correct, is_open}
use Rattle.ttp_world.specs.Membership.{AreNodes}
use Rattle.ttp_world.specs.Past.{NodePast}
use Rattle.safety_laws.specs.Heard.{HearsNoFrame}
use Rattle.safety_laws.specs.NodeSlot.{NodeSlot, next_past, owner_of}
use Rattle.safety_laws.specs.Standing.{IsJudgedAs}
use Rattle.safety_laws.specs.Turns.{HearsMembers, HearsOutside}

-- a group, and the node that is doubted
abbrev pub held_with : List ℕ → Ack → List ℕ
held_with group ack.Closed = group
held_with group ack.First = group
held_with group (ack.Doubt y) = with_node group y

-- a doubt is about a node outside the group
abbrev pub IsAboutOther : List ℕ → Ack → Type 0
IsAboutOther group ack.Closed = Unit {0}
IsAboutOther group ack.First = Unit {0}
IsAboutOther group (ack.Doubt y) = has_node group y ≡ false

-- no doubt is about this node
abbrev pub IsNotAbout : ℕ → Ack → Type 0
IsNotAbout j ack.Closed = Unit {0}
IsNotAbout j ack.First = Unit {0}
IsNotAbout j (ack.Doubt y) = y ≢ j

-- node k holds this group for members, and the node that it doubts; while its own frame is not acknowledged it is of
-- the group itself
pub record HoldsGroup (list : Medl) (k : ℕ) (group : List ℕ) (past : NodePast) : Type 0 where
  pub nodes : AreNodes list group
  pub members : past.members ≡ held_with group past.ack
  pub own : IsTrue (is_open past.ack) → IsTrue (has_node group k)
  pub doubted : IsAboutOther group past.ack

-- node k's own frame is not acknowledged, and if it doubts a node, then another
abbrev pub IsUnanswered : ℕ → Ack → Type 0
IsUnanswered k ack.Closed = ⊥
IsUnanswered k ack.First = Unit {0}
IsUnanswered k (ack.Doubt y) = y ≢ k

-- node p is neither the node nor the slot's owner, and no member to the node
pub record IsThird (x : NodeSlot) (p : ℕ) : Type 0 where
  pub listed : p < length x.list.slots
  pub not_self : p ≢ x.node
  pub not_owner : p ≢ owner_of x
  pub held : has_node x.past.members p ≡ false

-- a frame that comes to the node inside the window lacks the node among its members, or has a third one that is no
-- member to the node
pub data HearsNoAnswer (x : NodeSlot) : Type 0 where
  Lacks : (sender : ℕ) (members : List ℕ) → HearsMembers x sender members → has_node members x.node ≡ false
      → HearsNoAnswer x
  HasThird : (sender p : ℕ) (members : List ℕ) → HearsMembers x sender members → IsThird x p
      → has_node members p ≡ true
      → HearsNoAnswer x
  Outside : (sender : ℕ) → HearsOutside x sender → HearsNoAnswer x
  NoFrame : HearsNoFrame x.hearing → HearsNoAnswer x

-- after the slot it is still not acknowledged
pub record StaysUnanswered (x : NodeSlot) : Type 0 where
  pub verdict : Verdict
  pub deviation : ℤ
  pub judged : IsJudgedAs x verdict deviation
  pub wrong : is_correct verdict ≡ false
  pub ack : IsUnanswered x.node (next_past x).ack
