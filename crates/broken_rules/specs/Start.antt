-- Why a cluster has no start.
use Rattle.std.specs.Prelude.{ℕ, Bool, not, ◌&&◌, List, [], ◌∷◌, filter, Option, Some, None}
use Rattle.std.specs.List.{filter_map}
use Rattle.ttp_world.specs.declared.medl.Medl.{Medl}
use Rattle.ttp_world.specs.declared.script.Script.{Script}
use Rattle.ttp_world.specs.Hypothesis.{ClusterStart, nodes_of, least_of, start_slot, starts_in, start_of}
use Rattle.ttp_world.specs.Medl.{may_start}
use Rattle.ttp_world.specs.Script.{is_ever_on, is_on}
use Rattle.broken_rules.specs.declared.start.NoStart.{NoStart}
use Rattle.broken_rules.specs.declared.start.NoStart.TheVariants as why

-- a node comes on after a slot
abbrev pub is_late : Script → ℕ → ℕ → Bool
is_late script slot k = is_ever_on script k && not (is_on script k slot)

-- what is wrong with the first slot in which a node would start, where these would: two are rivals, and where one
-- starts alone, others come on later
abbrev pub why_at : Medl → Script → ℕ → List ℕ → NoStart
why_at list script slot (j ∷ k ∷ starters) = why.Rivals slot j k
why_at list script slot _ = why.Late slot (filter (is_late script slot) (nodes_of list))

-- what is wrong with those that would start, of which these may and the first would in this slot
abbrev pub why_by_first : Medl → Script → List ℕ → Option ℕ → NoStart
why_by_first list script starters None = why.NoStarterOn starters
why_by_first list script starters (Some slot) =
    why_at list script slot (filter (starts_in list script slot) (nodes_of list))

-- what is wrong with those that are on, where some may start
abbrev pub why_by_on : Medl → Script → List ℕ → List ℕ → NoStart
why_by_on list script starters [] = why.NobodyOn
why_by_on list script starters (k ∷ on) =
    why_by_first list script starters (least_of (filter_map (start_slot list script) (nodes_of list)))

-- what is wrong with those that may start
abbrev pub why_by_starters : Medl → Script → List ℕ → NoStart
why_by_starters list script [] = why.NoStarter
why_by_starters list script (k ∷ starters) =
    why_by_on list script (k ∷ starters) (filter (is_ever_on script) (nodes_of list))

-- why there is no start, where there is none: the first of these
abbrev pub why_no_start : Medl → Script → NoStart
why_no_start list script = why_by_starters list script (filter (may_start list) (nodes_of list))

-- why there is no start, where none was found
abbrev pub no_start_by : Medl → Script → Option ClusterStart → Option NoStart
no_start_by list script None = Some (why_no_start list script)
no_start_by list script (Some start) = None

-- why there is no start, if there is none
abbrev pub no_start : Medl → Script → Option NoStart
no_start list script = no_start_by list script (start_of list script)
