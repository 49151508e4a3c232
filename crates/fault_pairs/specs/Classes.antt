-- What two faults cost more together than each alone.
use Rattle.std.specs.Prelude.{ℕ, ◌==◌, Bool, true, false, ◌&&◌, ◌||◌, not, List, ◌++◌, map, filter, length}
use Rattle.std.specs.Prelude.{is_some, if◌then◌else◌}
use Rattle.std.specs.List.{list_any}
use Rattle.ttp_base.specs.NodeSet.{has_node}
use Rattle.campaign.specs.declared.cost.Cost.{Cost}
use Rattle.campaign.specs.declared.cost.Leave.{Leave}
use Rattle.campaign.specs.Lines.{is_torn, is_dead}
use Rattle.fault_pairs.specs.declared.pair.Harm.{Harm}
use Rattle.fault_pairs.specs.declared.pair.PairClass.{PairClass}
use Rattle.fault_pairs.specs.declared.pair.PairClass.TheVariants as class

-- What is compared.

-- the nodes that left, without when and why
abbrev pub left_nodes : List Leave → List ℕ
left_nodes leaves = map (λ leave. leave.node) leaves

-- who left, whether memberships were split, and whether two or none are left at the end
abbrev pub harm_of : Cost → Harm
harm_of cost = record {
  left = left_nodes cost.left;
  split = is_some cost.split;
  torn = is_torn cost;
  dead = is_dead cost;
}

-- The harm of three runs: with both faults, with the first alone, and with the second alone.

-- something is so with both faults, and with neither alone
abbrev pub only_both : Bool → Bool → Bool → Bool
only_both both one two = both && (not one && not two)

-- node k leaves so
abbrev pub leaves_by_both : Harm → Harm → Harm → ℕ → Bool
leaves_by_both both one two k = only_both (has_node both.left k) (has_node one.left k) (has_node two.left k)

-- the third nodes, which leave so and have neither of the faults, which are of these nodes
abbrev pub third_nodes : ℕ → ℕ → Harm → Harm → Harm → List ℕ
third_nodes first second both one two =
    filter (λ k. (not (k == first) && not (k == second)) && leaves_by_both both one two k) both.left

-- there are any
abbrev pub has_third : ℕ → ℕ → Harm → Harm → Harm → Bool
has_third first second both one two = not (length (third_nodes first second both one two) == 0)

-- one of the nodes of the faults leaves so
abbrev pub has_own : ℕ → ℕ → Harm → Harm → Harm → Bool
has_own first second both one two = leaves_by_both both one two first || leaves_by_both both one two second

-- a node stays that leaves with one of the faults alone
abbrev pub has_less : Harm → Harm → Harm → Bool
has_less both one two = list_any (λ k. not (has_node both.left k)) (one.left ++ two.left)

-- The class: the first that applies.

-- of those that cost no third node
abbrev pub mild_class : ℕ → ℕ → Harm → Harm → Harm → PairClass
mild_class first second both one two =
    if only_both both.split one.split two.split then class.Divided
    else if has_own first second both one two then class.Own
    else if has_less both one two then class.Less
    else class.Sum

-- of two faults of these nodes
abbrev pub pair_class : ℕ → ℕ → Harm → Harm → Harm → PairClass
pair_class first second both one two =
    if only_both both.dead one.dead two.dead then class.Dead
    else if only_both both.torn one.torn two.torn then class.Torn
    else if has_third first second both one two then class.Third
    else mild_class first second both one two

-- Which class it is.

abbrev pub is_sum : PairClass → Bool
is_sum class.Sum = true
is_sum _ = false

abbrev pub is_less : PairClass → Bool
is_less class.Less = true
is_less _ = false

abbrev pub is_own : PairClass → Bool
is_own class.Own = true
is_own _ = false

abbrev pub is_divided : PairClass → Bool
is_divided class.Divided = true
is_divided _ = false

abbrev pub is_third : PairClass → Bool
is_third class.Third = true
is_third _ = false

abbrev pub is_torn_pair : PairClass → Bool
is_torn_pair class.Torn = true
is_torn_pair _ = false

abbrev pub is_dead_pair : PairClass → Bool
is_dead_pair class.Dead = true
is_dead_pair _ = false

-- it costs more than the two nodes that have the faults, and has a line
abbrev pub has_line : PairClass → Bool
has_line class.Third = true
has_line class.Torn = true
has_line class.Dead = true
has_line _ = false
