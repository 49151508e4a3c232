-- What is kept of a node as a slot begins.
use Rattle.std.specs.Prelude.{◌≡◌, ℕ, ◌<◌, ◌≤◌, Bool, false, true, get_or, length, List, [], pos, unsigned_abs}
use Rattle.run_rows.specs.declared.row.NodeBegun.{NodeBegun}
use Rattle.ttp_world.specs.ZerosWorld.{zeros_world}
use Rattle.controller.specs.Limits.{most_clock}
use Rattle.ttp_world.specs.Diary.{cstate_at, no_place}
use Rattle.ttp_world.specs.Messages.{has_averaged}
use Rattle.ttp_world.specs.World.{BegunNode, node_after}
use Rattle.ttp_world.specs.declared.medl.Medl.{Medl}
use Rattle.ttp_world.specs.declared.node.Ack.TheVariants as ack
use Rattle.ttp_world.specs.declared.node.Phase.{Phase}
use Rattle.ttp_world.specs.declared.node.Phase.TheVariants as phase
use Rattle.ttp_world.specs.declared.script.Script.{Script}

-- of a node in a slot that has begun
abbrev pub begun_shown : Medl → BegunNode → NodeBegun
begun_shown list node = record {
  cstate = cstate_at node.past.place node.past.members;
  accepted = node.past.accepted;
  rejected = node.past.rejected;
  ack = node.past.ack;
  limit = node.past.limit;
  has_averaged = has_averaged list node.past;
  clock = node.clock;
}

-- a node that is off
abbrev pub is_off_phase : Phase → Bool
is_off_phase phase.Off = true
is_off_phase _ = false

-- what is kept of no node
abbrev pub nothing_begun : NodeBegun
nothing_begun = record {
  cstate = cstate_at no_place [];
  accepted = 0;
  rejected = 0;
  ack = ack.Closed;
  limit = 0;
  has_averaged = false;
  clock = pos 0;
}

-- this is kept of the first nodes, so many, as a slot begins
pub record AreBegun (list : Medl) (script : Script) (slot n : ℕ) (begun : List NodeBegun) : Type 0 where
  pub room : length begun ≡ 24
  pub nodes : (k : ℕ) → k < n
      → get_or begun k nothing_begun ≡ begun_shown list (node_after list script (zeros_world list script slot) k)
  pub near : (k : ℕ) → k < n → unsigned_abs (node_after list script (zeros_world list script slot) k).clock ≤ most_clock
