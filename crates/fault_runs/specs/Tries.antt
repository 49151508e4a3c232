-- The runs of faults, as they are told before they are counted.
use Rattle.std.specs.Prelude.{◌≡◌, ℕ, ◌<◌, length, List, map}
use Rattle.ttp_base.specs.Text.{Lines}
use Rattle.ttp_world.specs.declared.medl.Medl.{Medl}
use Rattle.ttp_world.specs.declared.script.Event.{Event}
use Rattle.ttp_world.specs.declared.script.Script.{Script}
use Rattle.ttp_world.specs.declared.script.TheConstants.{EVENT_LIMIT}
use Rattle.ttp_world.specs.Medl.{IsValid}
use Rattle.ttp_world.specs.Script.{IsValidScript}
use Rattle.campaign.specs.CostText.{cost_words}
use Rattle.campaign.specs.Lines.{summary, summary_with, run_line, is_same_cost}
use Rattle.run_costs.specs.Standing.{IsRunOfList, IsSeenAfter}
use Rattle.fault_runs.specs.Merging.{IsSettledFrom}
use Rattle.fault_runs.specs.Runs.{tried_in, tried_before}
use Rattle.fault_runs.specs.declared.own.OwnRun.{OwnRun}
use Rattle.fault_runs.specs.declared.tried.CampaignSetting.{CampaignSetting}
use Rattle.fault_runs.specs.declared.tried.Tried.{Tried}

-- the script's own run has done so many slots, and what it was before stands beside it
pub record IsOwnAfter (own : OwnRun) (list : Medl) (script : Script) (slots : ℕ) : Type 0 where
  pub run : IsSeenAfter own.run list script slots
  pub before : IsSeenAfter own.before list script own.before.slots

-- both are runs of this list, whatever they have done
pub record IsOwnOf (own : OwnRun) (list : Medl) : Type 0 where
  pub run : IsRunOfList own.run.run list
  pub before : IsRunOfList own.before.run list

-- the script may be run with one fault more; there are the words of what its own run costs, from which slot on that is
-- settled, and the memberships that are left in it
pub record MayTry (common : CampaignSetting) : Type 0 where
  pub valid : IsValid common.list.now
  pub script : IsValidScript common.list.now common.script.now
  pub room : length common.script.now.events < EVENT_LIMIT
  pub own : common.own.now ≡ cost_words common.list.now (summary common.list.now common.script.now).cost
  pub settled : IsSettledFrom common.list.now common.script.now common.settled
  pub end : common.end.now ≡ (summary common.list.now common.script.now).cost.end

-- the faults that are tried in a slot, and all
abbrev pub tried_at : CampaignSetting → ℕ → List Event
tried_at common slot = tried_in common.list.now common.script.now common.first common.last slot

abbrev pub all_tried : CampaignSetting → List Event
all_tried common =
    tried_before common.list.now common.script.now common.first common.last common.script.now.slots

-- what is told of the run with a fault
abbrev pub tried_of : Medl → Script → Event → Tried
tried_of list script fault = record {
  line = run_line list script fault;
  yes = (summary_with list script fault).yes;
  cost = (summary_with list script fault).cost;
  is_same = is_same_cost list (summary list script).cost (summary_with list script fault).cost;
}

-- the lines of some runs
abbrev pub tried_lines : List Tried → Lines
tried_lines all = map (λ (tried : Tried). tried.line) all
