-- The pairs of a range of slots, and their lines.
use Rattle.std.specs.Prelude.{ℕ, List, flat_map}
use Rattle.ttp_base.specs.Text.{Lines}
use Rattle.ttp_world.specs.declared.medl.Medl.{Medl}
use Rattle.ttp_world.specs.declared.script.Script.{Script}
use Rattle.campaign.specs.Lines.{summary}
use Rattle.ttp_world.specs.ZerosWorld.{zeros_world}
use Rattle.fault_pairs.specs.declared.pair.Harm.{Harm}
use Rattle.fault_pairs.specs.declared.pair.PairCounts.{PairCounts}
use Rattle.fault_pairs.specs.Classes.{harm_of}
use Rattle.fault_pairs.specs.Pairs.{FirstFault, firsts_from}
use Rattle.fault_pairs.specs.PairText.{pair_tolds, first_fault_lines}
use Rattle.fault_pairs.specs.Sums.{PairTold, pair_counts}

-- the harm of the script's own run
abbrev pub own_harm : Medl → Script → Harm
own_harm list script = harm_of (summary list script).cost

-- the first faults, by the script's own run
abbrev pub firsts_of_range : Medl → Script → ℕ → ℕ → List FirstFault
firsts_of_range list script first last = firsts_from list script (zeros_world list script script.slots) first last

-- what is told of the pairs of one, and of all
abbrev pub pairs_of_first : Medl → Script → ℕ → FirstFault → List PairTold
pairs_of_first list script within one = pair_tolds list script within (own_harm list script) one

abbrev pub pairs_of_range : Medl → Script → ℕ → ℕ → ℕ → List PairTold
pairs_of_range list script first last within =
    flat_map (pairs_of_first list script within) (firsts_of_range list script first last)

abbrev pub counts_of_first : Medl → Script → ℕ → FirstFault → PairCounts
counts_of_first list script within one = pair_counts (pairs_of_first list script within one)

-- the lines of all first faults and their pairs
abbrev pub lines_of_range : Medl → Script → ℕ → ℕ → ℕ → Lines
lines_of_range list script first last within =
    flat_map (first_fault_lines list script within (own_harm list script)) (firsts_of_range list script first last)
