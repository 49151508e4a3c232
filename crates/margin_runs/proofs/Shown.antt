-- What the nodes did in a slot of the whole run, and the sweeps of their jumps.
use Rattle.std.proofs.Common.{◌≡◌, ℕ, ◌+◌, ◌<◌, List, length, ap, sym, ◌∙◌, arith}
use Rattle.std.specs.Prelude.{flat_map, nat_le, ◌&&◌}
use Rattle.std.proofs.lemmas.List.{get_or-map}
use Rattle.ttp_base.specs.NodeSet.{below}
use Rattle.ttp_world.specs.declared.medl.Medl.{Medl}
use Rattle.ttp_world.specs.declared.node.Entry.{Entry}
use Rattle.ttp_world.specs.declared.node.Entry.TheVariants as entry
use Rattle.ttp_world.specs.declared.node.NodeState.{NodeState}
use Rattle.ttp_world.specs.declared.script.Script.{Script}
use Rattle.ttp_world.specs.Diary.{entry_of}
use Rattle.campaign.specs.declared.cost.Span.{Span}
use Rattle.campaign.specs.Tried.{is_timed, row_of}
use Rattle.ttp_world.specs.ZerosWorld.{zeros_world}
use Rattle.clock_margins.specs.declared.margin.Sweep.{Sweep}
use Rattle.clock_margins.specs.Sweeps.{jump_sweep}
use Rattle.run_costs.specs.States.{AreShown, state_at, off_state}
use Rattle.margin_runs.proofs.FromBelow.{shown-row, flat_map-filter}
use Rattle.margin_runs.specs.Written.{jump_sweeps_of, jumps_in, jumps_asked, all_jumps}
use Rattle.margin_runs.proofs.Sweeping.{picked}

-- the sweep of a node's jump in a slot, if there is one
abbrev pub jumps_at : Medl → Script → ℕ → ℕ → List Sweep
jumps_at list script slot k = jump_sweeps_of slot k (entry_of (row_of (zeros_world list script script.slots) slot) k)

pub shown-jumps : (list : Medl) (script : Script) (slot : ℕ) (states : List NodeState) → slot < script.slots
    → AreShown list script (zeros_world list script (slot + 1)) states → (k : ℕ) → k < length list.slots
    → jump_sweeps_of slot k (state_at states k).entry ≡ jumps_at list script slot k
shown-jumps list script slot states within shown k inside =
    ap (jump_sweeps_of slot k)
    (sym (get_or-map (λ (state : NodeState). state.entry) states k off_state
    entry.Off (omega (arith, inside, shown.count)))
    ∙ ap (λ (row : List Entry). entry_of row k) (shown-row list script slot states within shown))

pub jumps-whole : (list : Medl) (script : Script) (slot : ℕ)
    → jumps_in list script slot ≡ flat_map (jumps_at list script slot) (below (length list.slots))
jumps-whole list script slot =
    picked (jump_sweep slot) (λ k. is_timed (entry_of (row_of (zeros_world list script script.slots) slot) k))
    (below (length list.slots))

pub slots-whole : (list : Medl) (script : Script) (asked : Span)
    → all_jumps list script asked ≡ flat_map (jumps_asked list script asked) (below script.slots)
slots-whole list script asked =
    flat_map-filter (λ slot. nat_le asked.first slot && nat_le slot asked.last)
    (jumps_in list script) (below script.slots)
