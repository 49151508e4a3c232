-- An active node in another's slot and in its own.
use Rattle.std.specs.Prelude.{◌≡◌, ◌≢◌, ℕ, ◌<◌, false, List, length, IsTrue}
use Rattle.ttp_world.specs.declared.medl.Medl.{Medl}
use Rattle.ttp_world.specs.declared.node.Ack.{Ack}
use Rattle.ttp_world.specs.declared.node.Ack.TheVariants as ack
use Rattle.ttp_world.specs.declared.node.Phase.TheVariants as phase
use Rattle.ttp_world.specs.Conduct.{carries_payload}
use Rattle.ttp_world.specs.Medl.{IsValid}
use Rattle.ttp_world.specs.Membership.{AreNodes}
use Rattle.ttp_world.specs.Reception.{expected_length, is_within_window}
use Rattle.safety_laws.specs.Heard.{HearsFrame}
use Rattle.safety_laws.specs.NodeSlot.{NodeSlot, slot_place, owner_of}
use Rattle.safety_laws.specs.SlotFrames.{IsSlotFrame}

-- a doubt is about a node of the list
abbrev pub IsAboutListed : Medl → Ack → Type 0
IsAboutListed list ack.Closed = Unit {0}
IsAboutListed list ack.First = Unit {0}
IsAboutListed list (ack.Doubt x) = x < length list.slots

-- the node is active, and the slot is another's
pub record IsJudging (x : NodeSlot) : Type 0 where
  pub valid : IsValid x.list
  pub node : x.node < length x.list.slots
  pub active : x.past.phase ≡ phase.Active
  pub owner : owner_of x < length x.list.slots
  pub other : owner_of x ≢ x.node
  pub members : AreNodes x.list x.past.members
  pub doubted : IsAboutListed x.list x.past.ack

-- the owner's frame comes to it inside the window, as it was sent with these members
pub record HearsMembers (x : NodeSlot) (sender : ℕ) (members : List ℕ) : Type 0 where
  pub bytes : List ℕ
  pub frame : IsSlotFrame x.list (slot_place x) members bytes
  pub comes : HearsFrame (record { sender = sender; bytes = bytes }) x.hearing
  pub within : IsTrue (is_within_window x.list (x.hearing.deviation sender))

-- a frame comes to it outside the window
pub record HearsOutside (x : NodeSlot) (sender : ℕ) : Type 0 where
  pub bytes : List ℕ
  pub comes : HearsFrame (record { sender = sender; bytes = bytes }) x.hearing
  pub outside : is_within_window x.list (x.hearing.deviation sender) ≡ false

-- the node is active, and the slot is its own
pub record IsAtOwnSlot (x : NodeSlot) : Type 0 where
  pub valid : IsValid x.list
  pub node : x.node < length x.list.slots
  pub active : x.past.phase ≡ phase.Active
  pub own : owner_of x ≡ x.node
  pub members : AreNodes x.list x.past.members

-- the message that is chosen for its frame has as much payload as the list gives it
abbrev pub HasPayload : NodeSlot → Type 0
HasPayload x =
    IsTrue (carries_payload x.list (slot_place x))
    → length x.chosen.payload ≡ expected_length x.list (slot_place x)
