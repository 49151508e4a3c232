-- What a node's line shows is small.
use Rattle.std.specs.Prelude.{◌≡◌, ℕ, ◌<◌, ◌≤◌, ◌*◌, ◌^◌, unsigned_abs, IfSome}
use Rattle.ttp_world.specs.declared.node.Ack.TheVariants as ack
use Rattle.ttp_world.specs.declared.node.NodeState.{NodeState}
use Rattle.ttp_world.specs.declared.script.TheConstants.{SLOT_LIMIT}
use Rattle.ttp_world.specs.Trace.{peer_of}

pub record IsSmall (state : NodeState) : Type 0 where
  pub peer : (k : ℕ) → k < 256 → IfSome (peer_of k state.entry) (λ p. p < 256)
  pub accepted : state.accepted ≤ SLOT_LIMIT
  pub rejected : state.rejected ≤ SLOT_LIMIT
  pub doubt : (x : ℕ) → state.ack ≡ ack.Doubt x → x < 256
  pub offset : unsigned_abs state.offset ≤ SLOT_LIMIT * 2 ^ 38
