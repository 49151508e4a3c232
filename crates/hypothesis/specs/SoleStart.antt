-- The start by those that would start alone, whoever else comes on later.
use Rattle.std.specs.Prelude.{ℕ, filter, Option, Some, None}
use Rattle.std.specs.List.{filter_map}
use Rattle.ttp_world.specs.declared.medl.Medl.{Medl}
use Rattle.ttp_world.specs.declared.script.Script.{Script}
use Rattle.ttp_world.specs.Hypothesis.{ClusterStart, nodes_of, least_of, start_slot, starts_in, only_starter}

-- the start in a slot, if there is one, where one node alone starts in it
abbrev pub sole_start_in : Medl → Script → Option ℕ → Option ClusterStart
sole_start_in list script None = None
sole_start_in list script (Some slot) = only_starter slot (filter (starts_in list script slot) (nodes_of list))

-- the first slot in which a node would start, and that node, where it is one alone
abbrev pub sole_start : Medl → Script → Option ClusterStart
sole_start list script = sole_start_in list script (least_of (filter_map (start_slot list script) (nodes_of list)))
