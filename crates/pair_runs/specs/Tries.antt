-- The runs of pairs, as they are told before they are counted.
use Rattle.std.specs.Prelude.{◌≡◌, ℕ, ◌+◌, ◌<◌, true, [], length, All, if◌then◌else◌}
use Rattle.ttp_world.specs.declared.medl.Medl.{Medl}
use Rattle.ttp_world.specs.declared.script.Event.{Event}
use Rattle.ttp_world.specs.declared.script.Script.{Script}
use Rattle.ttp_world.specs.declared.script.TheConstants.{EVENT_LIMIT}
use Rattle.ttp_world.specs.Medl.{IsValid}
use Rattle.ttp_world.specs.Script.{IsValidScript}
use Rattle.campaign.specs.Lines.{summary, summary_with}
use Rattle.campaign.specs.Tried.{with_fault}
use Rattle.single_faults.specs.Tried.{MayStand}
use Rattle.run_costs.specs.declared.seen_run.SeenRun.{SeenRun}
use Rattle.run_costs.specs.Later.{comes_later}
use Rattle.run_costs.specs.Standing.{IsSeenAfter}
use Rattle.fault_pairs.specs.Classes.{harm_of, has_line}
use Rattle.fault_pairs.specs.Pairs.{FirstFault, second_apart}
use Rattle.fault_pairs.specs.PairText.{told_of_pair}
use Rattle.fault_pairs.specs.Sums.{PairTold}
use Rattle.pair_runs.specs.declared.singles.Single.{Single}
use Rattle.pair_runs.specs.declared.tried.PairsSetting.{PairsSetting}
use Rattle.pair_runs.specs.declared.tried.FirstSetting.{FirstSetting}
use Rattle.pair_runs.specs.declared.tried.PairResult.{PairResult}

-- what a fault costs alone
abbrev pub IsSingle : Medl → Script → Single → Type 0
IsSingle list script single = single.harm ≡ harm_of (summary_with list script single.fault).cost

-- the script may be run with two faults more, and what its own run did is there
pub record MayPair (common : PairsSetting) : Type 0 where
  pub valid : IsValid common.list.now
  pub script : IsValidScript common.list.now common.script.now
  pub room : length common.script.now.events + 1 < EVENT_LIMIT
  pub own : common.own ≡ harm_of (summary common.list.now common.script.now).cost

-- a run by a script, as far as it has come
abbrev pub IsPastRun : Medl → Script → SeenRun → Type 0
IsPastRun list script run = IsSeenAfter run list script run.slots

-- a fault may stand in a script, and begins in this slot or later
pub record MayBegin (list : Medl) (script : Script) (slot : ℕ) (fault : Event) : Type 0 where
  pub may : MayStand list script fault
  pub later : comes_later slot fault ≡ true

-- a first fault that may begin in its slot
pub record MayTryPairs (setting : FirstSetting) : Type 0 where
  pub may : MayPair setting.common
  pub slot : setting.slot < setting.common.script.now.slots
  pub one : MayBegin setting.common.list.now setting.common.script.now setting.slot setting.one.now
  pub behind : All (MayStand setting.common.list.now setting.common.script.now) setting.behind.now
  pub more : setting.more.now ≡ with_fault setting.common.script.now setting.one.now
  pub valid : IsValidScript setting.common.list.now setting.more.now
  pub first : setting.first ≡ harm_of (summary_with setting.common.list.now setting.common.script.now setting.one.now).cost

-- the first fault
abbrev pub first_of : FirstSetting → FirstFault
first_of setting = record { slot = setting.slot; fault = setting.one.now; behind = setting.behind.now }

-- what is told of a pair
abbrev pub told_pair : FirstSetting → ℕ → Event → PairTold
told_pair setting apart two =
    told_of_pair setting.common.list.now setting.common.script.now setting.common.own (first_of setting) setting.first
    (second_apart apart two)

-- what is kept of a pair that was told: the answer of its test, its class, and its line where the class has one
abbrev pub shortened : PairTold → PairResult
shortened told = record { yes = told.yes; class = told.class; line = if has_line told.class then told.line else [] }

abbrev pub pair_tried : FirstSetting → ℕ → Event → PairResult
pair_tried setting apart two = shortened (told_pair setting apart two)
