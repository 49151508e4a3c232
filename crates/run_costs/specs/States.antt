-- What is shown of all nodes after a slot, and the memberships that are read of it.
use Rattle.std.specs.Prelude.{◌≡◌, ℕ, ◌<◌, pos, Bool, ◌&&◌, not, List, [], length, get_or, Option, Some, None}
use Rattle.std.specs.Prelude.{if◌then◌else◌}
use Rattle.std.specs.List.{filter_map, slice_get}
use Rattle.ttp_base.specs.NodeSet.{below}
use Rattle.ttp_world.specs.declared.medl.Medl.{Medl}
use Rattle.ttp_world.specs.declared.node.Ack.TheVariants as ack
use Rattle.ttp_world.specs.declared.node.Entry.TheVariants as entry
use Rattle.ttp_world.specs.declared.node.NodeState.{NodeState}
use Rattle.ttp_world.specs.declared.node.Phase.TheVariants as phase
use Rattle.ttp_world.specs.declared.script.Script.{Script}
use Rattle.ttp_world.specs.Acknowledgement.{is_doubt}
use Rattle.ttp_world.specs.Diary.{History, is_active_phase}
use Rattle.ttp_world.specs.Past.{state_of}
use Rattle.ttp_world.specs.World.{node_past}
use Rattle.campaign.specs.Cost.{each_once, has_two}
use Rattle.run_costs.specs.declared.seen_costs.sets.Held.{Held}

-- what is shown of a node that is off
abbrev pub off_state : NodeState
off_state = record {
  phase = phase.Off;
  entry = entry.Off;
  members = [];
  accepted = 0;
  rejected = 0;
  ack = ack.Closed;
  offset = pos 0;
}

-- what is shown of node k, where these are the states of all nodes in their order
abbrev pub state_at : List NodeState → ℕ → NodeState
state_at states k = get_or states k off_state

-- these states are what is shown of all nodes after a history
pub record AreShown (list : Medl) (script : Script) (history : History) (states : List NodeState) : Type 0 where
  pub count : length states ≡ length list.slots
  pub nodes : (k : ℕ) → k < length list.slots → state_at states k ≡ state_of (node_past list script history k)

-- the members of a node that is one of those meant, where it is active and not in doubt
abbrev pub firm_of : NodeState → Bool → Option (List ℕ)
firm_of state is_meant =
    if (is_active_phase state.phase && not (is_doubt state.ack)) && is_meant then Some state.members else None

-- of the first nodes, so many, where a test names those that are meant
abbrev pub firm_sets : List NodeState → (ℕ → Bool) → ℕ → List (List ℕ)
firm_sets states among n = filter_map (λ k. firm_of (state_at states k) (among k)) (below n)

-- so much is kept of memberships, to tell whether they are two
pub record IsHeld (held : Held) (sets : List (List ℕ)) : Type 0 where
  pub first : held.first ≡ slice_get sets 0
  pub two : held.are_two ≡ has_two (each_once sets)
