-- The parts of the text of pairs, in the order in which they are written.
use Rattle.std.specs.Prelude.{◌≡◌, ℕ, List, [], ◌∷◌, ◌++◌, map, flat_map, length, All, codes, if◌then◌else◌}
use Rattle.std.specs.List.{list_any, range_with_len}
use Rattle.ttp_base.specs.NodeSet.{below}
use Rattle.ttp_base.specs.Text.{Lines}
use Rattle.ttp_world.specs.declared.medl.Medl.{Medl}
use Rattle.ttp_world.specs.declared.script.Script.{Script}
use Rattle.campaign.specs.Lines.{own_line, summary}
use Rattle.campaign.specs.Tried.{faults_in, row_of}
use Rattle.ttp_world.specs.ZerosWorld.{zeros_world}
use Rattle.run_costs.specs.Standing.{IsRunOfList}
use Rattle.fault_runs.specs.Tries.{IsOwnAfter, IsOwnOf}
use Rattle.fault_pairs.specs.Pairs.{FirstFault, SecondFault, firsts_among, firsts_from, seconds_behind}
use Rattle.fault_pairs.specs.PairText.{pair_tolds, first_fault_lines, pairs_head_line}
use Rattle.fault_pairs.specs.PairText.{told_of_pair, apart_line, pair_counts_line}
use Rattle.fault_pairs.specs.Sums.{PairTold, pair_counts, told_kept, told_broken, are_so_far_apart}
use Rattle.ttp_world.specs.declared.script.Event.{Event}
use Rattle.pair_runs.specs.declared.ahead.OwnAhead.{OwnAhead}
use Rattle.pair_runs.specs.declared.put.Workspace.{Workspace}
use Rattle.pair_runs.specs.declared.singles.Singles.{Singles}
use Rattle.pair_runs.specs.declared.tried.PairsSetting.{PairsSetting}
use Rattle.pair_runs.specs.declared.tried.FirstSetting.{FirstSetting}
use Rattle.pair_runs.specs.Tries.{IsSingle, first_of}

-- how many slots of singles are kept
abbrev pub slots_kept : ℕ
slots_kept = 256

-- what single faults cost, slot by slot
pub record AreSingles (list : Medl) (script : Script) (rows : List Singles) : Type 0 where
  pub count : length rows ≡ slots_kept
  pub each : All (λ row. All (IsSingle list script) row.all.items) rows

-- the run ahead of the first faults, and what single faults cost up to its slot
pub record IsAhead (list : Medl) (script : Script) (ahead : OwnAhead) : Type 0 where
  pub own : IsOwnAfter ahead.own list script ahead.next
  pub rows : AreSingles list script ahead.rows.items

-- runs of a list, whatever they have done
pub record IsWorkspace (list : Medl) (work : Workspace) : Type 0 where
  pub run : IsRunOfList work.run.run list
  pub past : IsOwnOf work.past list

-- the faults that are tried in a slot, by the run of a script
abbrev pub faults_at : Medl → Script → ℕ → List Event
faults_at list script slot = faults_in list script (row_of (zeros_world list script script.slots) slot) slot

-- a first fault, and those that are tried behind it in its slot
abbrev pub first_with : ℕ → Event → List Event → FirstFault
first_with slot one behind = record { slot = slot; fault = one; behind = behind }

-- what is told of a pair of a first fault, and of those of which the second comes in a later slot
abbrev pub told_second : FirstSetting → SecondFault → PairTold
told_second setting two =
    told_of_pair setting.common.list.now setting.common.script.now setting.common.own (first_of setting) setting.first two

abbrev pub tolds_behind : FirstSetting → List PairTold
tolds_behind setting =
    map (told_second setting) (seconds_behind setting.common.list.now setting.more.now
    (zeros_world setting.common.list.now setting.more.now setting.more.now.slots) setting.slot setting.common.within)

-- the first faults of a slot, of so many slots from one on, and of the range
abbrev pub firsts_of : PairsSetting → ℕ → List FirstFault
firsts_of common slot = firsts_among slot (faults_at common.list.now common.script.now slot)

abbrev pub firsts_between : PairsSetting → ℕ → ℕ → List FirstFault
firsts_between common from count = flat_map (firsts_of common) (range_with_len from count)

abbrev pub all_firsts : PairsSetting → List FirstFault
all_firsts common =
    firsts_from common.list.now common.script.now
    (zeros_world common.list.now common.script.now common.script.now.slots)
    common.first common.last

-- what is told of the pairs of some first faults, and their lines
abbrev pub tolds_of_firsts : PairsSetting → List FirstFault → List PairTold
tolds_of_firsts common firsts =
    flat_map (pair_tolds common.list.now common.script.now common.within common.own) firsts

abbrev pub text_of_firsts : PairsSetting → List FirstFault → Lines
text_of_firsts common firsts =
    flat_map (first_fault_lines common.list.now common.script.now common.within common.own) firsts

-- the lines before those of first faults
abbrev pub opening_lines : PairsSetting → Lines
opening_lines common =
    pairs_head_line common.list.now common.script.now common.first common.last common.within
    ∷ own_line common.list.now (summary common.list.now common.script.now) ∷ []

-- the line of a distance that some pair has, and those of the first distances, so many
abbrev pub lines_at : List PairTold → ℕ → Lines
lines_at tolds distance = if list_any (are_so_far_apart distance) tolds then apart_line tolds distance ∷ [] else []

abbrev pub distance_lines : List PairTold → ℕ → Lines
distance_lines tolds distances = flat_map (lines_at tolds) (below distances)

-- the lines behind those of first faults
abbrev pub ending_lines : ℕ → List PairTold → Lines
ending_lines distances tolds =
    distance_lines tolds distances
    ++ pair_counts_line (codes "kept ") (pair_counts (told_kept tolds))
    ∷ pair_counts_line (codes "broken ") (pair_counts (told_broken tolds)) ∷ []
