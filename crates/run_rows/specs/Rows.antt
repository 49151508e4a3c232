-- The rows of a run.
use Rattle.std.specs.Prelude.{◌≡◌, ℕ, zero, suc, ◌<◌, ◌≤◌, List, [], ◌++◌, length, map, unsigned_abs}
use Rattle.run_rows.specs.declared.row.NodeRow.{NodeRow}
use Rattle.ttp_world.specs.ZerosWorld.{all_zeros, zeros_world}
use Rattle.controller.specs.Limits.{most_clock}
use Rattle.causes.specs.RunSlots.{RunSlot, RunSlots, entry_in_slot, slot_of_run, slots_of_run}
use Rattle.run_rows.specs.Begun.{begun_shown}
use Rattle.ttp_base.specs.NodeSet.{below}
use Rattle.ttp_world.specs.Medl.{IsValid}
use Rattle.ttp_world.specs.Script.{IsValidScript}
use Rattle.ttp_world.specs.World.{node_of, row_in, slot_after}
use Rattle.ttp_world.specs.declared.medl.Medl.{Medl}
use Rattle.ttp_world.specs.declared.script.Script.{Script}

-- a slot of the run of a script
unfoldable pub slot_in : Medl → Script → ℕ → RunSlot
slot_in list script slot =
    let history = zeros_world list script slot in
    slot_of_run list script history (row_in (slot_after list script history) (all_zeros list))

-- the slots before it, the newest first
unfoldable pub past_slots_in : Medl → Script → ℕ → RunSlots
past_slots_in list script slot = slots_of_run list script (zeros_world list script slot)

-- what contracts see of a run: its list and script, and how many slots it has
pub record RunShown : Type 0 where
  pub list : Medl
  pub script : Script
  pub slots : ℕ

-- a slot of it
abbrev pub run_slot : RunShown → ℕ → RunSlot
run_slot run slot = slot_in run.list run.script slot

-- those before a slot
abbrev pub past_slots : RunShown → ℕ → RunSlots
past_slots run slot = past_slots_in run.list run.script slot

-- what is kept of node k in a slot
abbrev pub node_row : ℕ → RunSlot → NodeRow
node_row k s = record { begun = begun_shown s.begun.list (node_of s.begun k); entry = entry_in_slot k s }

-- the rows of a slot, in the order of the nodes
abbrev pub rows_of : Medl → RunSlot → List NodeRow
rows_of list s = map (λ k. node_row k s) (below (length list.slots))

-- those of the first slots, slot after slot
abbrev pub rows_in : Medl → Script → ℕ → List NodeRow
rows_in list script zero = []
rows_in list script (suc slot) = rows_in list script slot ++ rows_of list (slot_in list script slot)

-- in the first slots, so many, clocks are near 0
abbrev pub AreRowsNear : Medl → Script → ℕ → Type 0
AreRowsNear list script slots =
    (slot k : ℕ) → slot < slots → k < length list.slots
    → unsigned_abs (node_of (slot_in list script slot).begun k).clock ≤ most_clock

-- the rows of a run of so many slots
pub record AreRows (list : Medl) (script : Script) (slots : ℕ) (kept : List NodeRow) : Type 0 where
  pub valid : IsValid list
  pub valid_script : IsValidScript list script
  pub within : slots ≤ script.slots
  pub rows : kept ≡ rows_in list script slots
  pub near : AreRowsNear list script slots
