-- One two-faced sender: how far apart clocks come then, and how wrongly its frames may be read.
use Rattle.std.specs.Prelude.{ℕ, ◌+◌, ◌*◌, ◌<◌, nat_le, ℤ, pos, ◌+ℤ◌, ◌-ℤ◌, ◌*ℤ◌, ◌≤ℤ◌, Bool, false, ◌&&◌, ◌==◌, length}
use Rattle.std.specs.Prelude.{Option, Some, None, IsTrue, if◌then◌else◌}
use Rattle.std.specs.Int.{int_max}
use Rattle.ttp_world.specs.declared.medl.Medl.{Medl}
use Rattle.ttp_world.specs.declared.script.Script.{Script}
use Rattle.ttp_world.specs.Hypothesis.{ClusterStart, expected_sender, is_within_bound}
use Rattle.ttp_world.specs.Script.{drift_of, reading_error}

-- how far apart the clocks of two nodes may come: 12 D n + 6 E + 2
abbrev pub bound : Medl → ℤ
bound list = list.drift *ℤ pos (12 * length list.slots) +ℤ (list.error *ℤ pos 6 +ℤ pos 2)

-- two rounds have passed since the start, and the node is due to send
abbrev pub is_faced_slot : Medl → ℕ → Option ClusterStart → ℕ → Bool
is_faced_slot list z None slot = false
is_faced_slot list z (Some start) slot =
    nat_le (start.slot + 2 * length list.slots) slot && (expected_sender list start slot == z)

-- how far a node's reading errors may add up in a slot, either way
abbrev pub allowed_error : Medl → ℕ → Option ClusterStart → ℕ → ℤ
allowed_error list z start slot =
    if is_faced_slot list z start slot then int_max list.error (list.window -ℤ bound list) else list.error

-- a script whose clocks drift and are read as one two-faced sender allows, for a window that is wide enough
pub record HasFacedClocks (list : Medl) (script : Script) (start : ClusterStart) (z : ℕ) : Type 0 where
  pub drifts : (k : ℕ) → k < length list.slots → IsTrue (is_within_bound list.drift (drift_of script k))
  pub errors : (k slot : ℕ) → k < length list.slots → slot < script.slots
      → IsTrue (is_within_bound (allowed_error list z (Some start) slot) (reading_error script k slot))
  pub window : (bound list +ℤ list.error) ≤ℤ list.window
