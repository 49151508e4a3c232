-- Harms and pairs that are given.
use Rattle.std.specs.Prelude.{ℕ, Bool, true, false, List, [], ◌∷◌, codes}
use Rattle.fault_pairs.specs.declared.pair.Harm.{Harm}
use Rattle.fault_pairs.specs.declared.pair.PairClass.{PairClass}
use Rattle.fault_pairs.specs.declared.pair.PairClass.TheVariants as class
use Rattle.fault_pairs.specs.Classes.{pair_class}
use Rattle.fault_pairs.specs.Sums.{PairTold}

-- these nodes left, and nothing else is the matter
abbrev pub left_by : List ℕ → Harm
left_by nodes = record { left = nodes; split = false; torn = false; dead = false }

-- besides memberships were split, two are left at the end, or none is
abbrev pub split_by : List ℕ → Harm
split_by nodes = record (left_by nodes) { split = true }

abbrev pub torn_by : List ℕ → Harm
torn_by nodes = record (split_by nodes) { torn = true }

abbrev pub dead_by : List ℕ → Harm
dead_by nodes = record (torn_by nodes) { dead = true }

-- the class of two faults of nodes 0 and 2, by the harm of both and of each alone
abbrev pub class_of_0_and_2 : Harm → Harm → Harm → PairClass
class_of_0_and_2 both one two = pair_class 0 2 both one two

-- a pair of a distance
abbrev pub pair_told : ℕ → Bool → PairClass → PairTold
pair_told apart says_yes class = record { apart = apart; yes = says_yes; class = class; line = codes "..." }

-- seven pairs
abbrev pub some_pairs : List PairTold
some_pairs =
    pair_told 0 true class.Own ∷ pair_told 0 false class.Third ∷ pair_told 1 true class.Sum
    ∷ pair_told 4 false class.Sum ∷ pair_told 4 true class.Less ∷ pair_told 4 false class.Torn
    ∷ pair_told 1 false class.Dead ∷ []
