-- A listening node: what it hears of a place, or that it hears of none.
use Rattle.std.specs.Prelude.{◌≡◌, ℕ, List, Some, None}
use Rattle.ttp_world.specs.declared.node.Act.TheVariants.{Listen}
use Rattle.ttp_world.specs.Diary.{Place, cstate_at}
use Rattle.ttp_world.specs.Fitting.{joinable}
use Rattle.ttp_world.specs.Membership.{AreNodes}
use Rattle.safety_laws.specs.Heard.{HearsFrame}
use Rattle.safety_laws.specs.NodeSlot.{NodeSlot, act_made}

-- the node listens in the slot, and does not start
abbrev pub ListensInSlot : NodeSlot → Type 0
ListensInSlot x = act_made x ≡ Listen

-- a frame comes to the node as it was sent, and on it one joins at this place, with these members
pub record HearsPlace (x : NodeSlot) (sender : ℕ) (place : Place) (members : List ℕ) : Type 0 where
  pub bytes : List ℕ
  pub comes : HearsFrame (record { sender = sender; bytes = bytes }) x.hearing
  pub can : joinable x.list bytes ≡ Some (cstate_at place members)
  pub nodes : AreNodes x.list members

-- a frame comes to it on which none joins
pub record HearsNoPlace (x : NodeSlot) (sender : ℕ) : Type 0 where
  pub bytes : List ℕ
  pub comes : HearsFrame (record { sender = sender; bytes = bytes }) x.hearing
  pub can_not : joinable x.list bytes ≡ None
