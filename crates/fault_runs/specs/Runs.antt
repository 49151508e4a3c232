-- The runs of a campaign, one after another.
use Rattle.std.specs.Prelude.{◌≡◌, ℕ, nat_le, ◌≤◌, ◌&&◌, List, [], ◌∷◌, map, flat_map, codes, if◌then◌else◌}
use Rattle.ttp_base.specs.NodeSet.{below}
use Rattle.ttp_base.specs.Text.{Lines}
use Rattle.ttp_world.specs.declared.medl.Medl.{Medl}
use Rattle.ttp_world.specs.declared.node.Entry.{Entry}
use Rattle.ttp_world.specs.declared.node.NodeState.{NodeState}
use Rattle.ttp_world.specs.declared.script.Event.{Event}
use Rattle.ttp_world.specs.declared.script.Script.{Script}
use Rattle.campaign.specs.declared.cost.Cost.{Cost}
use Rattle.campaign.specs.declared.cost.Counts.{Counts}
use Rattle.campaign.specs.Lines.{Summary, summary, summary_with, head_line, own_line, run_line}
use Rattle.campaign.specs.Lines.{counts_line, kept_counts, broken_counts}
use Rattle.campaign.specs.Tried.{faults_in, row_of}
use Rattle.ttp_world.specs.ZerosWorld.{zeros_world}
use Rattle.fault_runs.specs.declared.tally.Tally.{Tally}

-- the faults that are tried in a slot, where it is in the range
abbrev pub tried_in : Medl → Script → ℕ → ℕ → ℕ → List Event
tried_in list script first last slot =
    if nat_le first slot && nat_le slot last
    then faults_in list script (row_of (zeros_world list script script.slots) slot) slot
    else []

-- in the first slots, so many
abbrev pub tried_before : Medl → Script → ℕ → ℕ → ℕ → List Event
tried_before list script first last slots = flat_map (tried_in list script first last) (below slots)

-- what each node did, by what is shown of it
abbrev pub entries_of : List NodeState → List Entry
entries_of states = map (λ (state : NodeState). state.entry) states

-- the lines before those of faults, and behind them
abbrev pub front_lines : Medl → Script → ℕ → ℕ → Lines
front_lines list script first last =
    head_line list script first last ∷ own_line list (summary list script) ∷ []

abbrev pub end_lines : Medl → Cost → List Summary → Lines
end_lines list own runs =
    counts_line (codes "kept ") (kept_counts list own runs)
    ∷ counts_line (codes "broken ") (broken_counts list own runs) ∷ []

-- the lines of faults
abbrev pub fault_lines : Medl → Script → List Event → Lines
fault_lines list script faults = map (run_line list script) faults

-- no count is more than so many
pub record AreAtMost (most : ℕ) (counts : Counts) : Type 0 where
  pub runs : counts.runs ≤ most
  pub same : counts.same ≤ most
  pub hurt : counts.hurt ≤ most
  pub split : counts.split ≤ most
  pub torn : counts.torn ≤ most
  pub dead : counts.dead ≤ most

-- those of a tally
pub record HasAtMost (most : ℕ) (tally : Tally) : Type 0 where
  pub kept : AreAtMost most tally.kept
  pub broken : AreAtMost most tally.broken

-- a slot has no more faults than this
abbrev pub most_tried : ℕ
most_tried = 384

-- what these runs come to
pub record AreCountsOf (list : Medl) (own : Cost) (runs : List Summary) (tally : Tally) : Type 0 where
  pub kept : tally.kept ≡ kept_counts list own runs
  pub broken : tally.broken ≡ broken_counts list own runs

-- what the runs with these faults come to
abbrev pub IsTallyOf : Medl → Script → List Event → Tally → Type 0
IsTallyOf list script faults tally =
    AreCountsOf list (summary list script).cost (map (summary_with list script) faults) tally
