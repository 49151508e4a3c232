-- How far a walk that tells the faulty nodes of a run has gone.
use Rattle.std.specs.Prelude.{◌≡◌, ℕ, None, true, false}
use Rattle.ttp_world.specs.declared.medl.Medl.{Medl}
use Rattle.ttp_world.specs.declared.script.Script.{Script}
use Rattle.ttp_world.specs.Hypothesis.{start_of}
use Rattle.ttp_world.specs.Returning.{has_arm}
use Rattle.hypothesis.specs.FaultyRuns.{KnowsKept, IsKeptAt, KnowsBack, IsBackAt}
use Rattle.run_costs.specs.declared.seen_costs.faulty.Faulty.{Faulty}
use Rattle.run_costs.specs.declared.seen_costs.faulty.Faulty.TheVariants as faulty

-- by the test of the script, over so many slots
abbrev pub IsFaultyAt : Medl → Script → ℕ → Faulty → Type 0
IsFaultyAt list script slot faulty.Nobody = start_of list script ≡ None
IsFaultyAt list script slot (faulty.Kept walk) = (has_arm script ≡ false) × IsKeptAt list script slot walk
IsFaultyAt list script slot (faulty.Back walk) = (has_arm script ≡ true) × IsBackAt list script slot walk

-- the faulty nodes at a slot are known, whatever is kept of what happens to the nodes
abbrev pub KnowsFaulty : Medl → Script → ℕ → Faulty → Type 0
KnowsFaulty list script slot faulty.Nobody = start_of list script ≡ None
KnowsFaulty list script slot (faulty.Kept walk) = (has_arm script ≡ false) × KnowsKept list script slot walk
KnowsFaulty list script slot (faulty.Back walk) = (has_arm script ≡ true) × KnowsBack list script slot walk
