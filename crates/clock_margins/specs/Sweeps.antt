-- What is swept: a node's drift, or its jump in a slot, by each whole value up to the reach either way.
use Rattle.std.specs.Prelude.{ℕ, zero, suc, ◌*◌, min, ℤ, pos, neg_ℤ, ◌+ℤ◌, List, [], ◌∷◌, set, map, filter, flat_map}
use Rattle.std.specs.Prelude.{Option, Some, None, unsigned_abs}
use Rattle.ttp_world.specs.declared.medl.Medl.{Medl}
use Rattle.ttp_world.specs.declared.script.Event.TheVariants as event
use Rattle.ttp_world.specs.declared.script.Script.{Script}
use Rattle.ttp_world.specs.declared.script.TheConstants.{DRIFT_LIMIT, JUMP_LIMIT}
use Rattle.ttp_world.specs.Diary.{History, entry_of}
use Rattle.ttp_world.specs.Hypothesis.{nodes_of, four_windows}
use Rattle.ttp_world.specs.Script.{is_ever_on}
use Rattle.campaign.specs.declared.cost.Span.{Span}
use Rattle.campaign.specs.Tried.{with_fault, is_timed, row_of, slots_between}
use Rattle.clock_margins.specs.declared.margin.Sweep.{Sweep}

-- The script of a value.

-- the script with another drift of one node
abbrev pub with_drift : Script → ℕ → ℤ → Script
with_drift script k value = record script { drift = set script.drift k value }

-- the script with this value for a node's drift, or with its jump in a slot as the last line
abbrev pub with_clock_value : Script → ℕ → Option ℕ → ℤ → Script
with_clock_value script k None value = with_drift script k value
with_clock_value script k (Some slot) value = with_fault script (event.Jump k value slot)

-- the script with this value of a sweep
abbrev pub swept_script : Script → Sweep → ℤ → Script
swept_script script sweep value = with_clock_value script sweep.node sweep.slot value

-- The values: four windows either way, or the most that a line of a script may say where that is less.

-- the most that a line says of a drift, and of a jump, where slots are asked for
abbrev pub value_limit : Option Span → ℕ
value_limit None = DRIFT_LIMIT
value_limit (Some asked) = JUMP_LIMIT

-- how far values go either way
abbrev pub reach : Medl → Option Span → ℕ
reach list asked = min (unsigned_abs (four_windows list)) (value_limit asked)

-- so many values, each greater by one than the one before
abbrev pub values_from : ℤ → ℕ → List ℤ
values_from value zero = []
values_from value (suc count) = value ∷ values_from (value +ℤ pos 1) count

-- all values, in ascending order
abbrev pub values : ℕ → List ℤ
values reach = values_from (neg_ℤ (pos reach)) (suc (2 * reach))

-- The sweeps: without a range of slots the drift of each node that is ever on; else for each slot of the range the jump
-- of each node against whose clock others hold theirs there, or which holds its own against theirs.

abbrev pub drift_sweep : ℕ → Sweep
drift_sweep k = record { node = k; slot = None }

abbrev pub jump_sweep : ℕ → ℕ → Sweep
jump_sweep slot k = record { node = k; slot = Some slot }

-- the nodes whose jumps in a slot are swept, by the script's own run
abbrev pub jumpers : Medl → History → ℕ → List ℕ
jumpers list history slot = filter (λ k. is_timed (entry_of (row_of history slot) k)) (nodes_of list)

-- by the history of the script's own run, and the range that is asked for
abbrev pub sweeps : Medl → Script → History → Option Span → List Sweep
sweeps list script history None = map drift_sweep (filter (is_ever_on script) (nodes_of list))
sweeps list script history (Some asked) =
    flat_map (λ slot. map (jump_sweep slot) (jumpers list history slot)) (slots_between script asked.first asked.last)
