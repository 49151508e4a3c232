-- A slot after a history in which one node alone sends, or none.
use Rattle.std.specs.Prelude.{◌≡◌, ◌≢◌, ℕ, ◌<◌, List, [], length}
use Rattle.ttp_world.specs.declared.medl.Medl.{Medl}
use Rattle.ttp_world.specs.declared.node.Ack.TheVariants as ack
use Rattle.ttp_world.specs.declared.node.Chosen.{Chosen}
use Rattle.ttp_world.specs.declared.script.Script.{Script}
use Rattle.ttp_world.specs.Diary.{History}
use Rattle.safety_laws.specs.Heard.{IsUnflipped}
use Rattle.safety_laws.specs.NodeSlot.{node_slot, frames_made}
use Rattle.safety_laws.specs.Turns.{IsAtOwnSlot, HasPayload}

-- node p sends its frame, which is not flipped, and no other node sends
pub record SendsAlone (list : Medl) (script : Script) (history : History) (chosen : List Chosen) (p : ℕ) : Type 0 where
  pub own : IsAtOwnSlot (node_slot list script history chosen p)
  pub closed : (node_slot list script history chosen p).past.ack ≡ ack.Closed
  pub accepted : (node_slot list script history chosen p).past.rejected
      < (node_slot list script history chosen p).past.accepted
  pub payload : HasPayload (node_slot list script history chosen p)
  pub unflipped : IsUnflipped script p (length history)
  pub others : (k : ℕ) → k < length list.slots → k ≢ p → frames_made (node_slot list script history chosen k) ≡ []

-- no node sends
abbrev pub NoneSends : Medl → Script → History → List Chosen → Type 0
NoneSends list script history chosen =
    (k : ℕ) → k < length list.slots → frames_made (node_slot list script history chosen k) ≡ []
