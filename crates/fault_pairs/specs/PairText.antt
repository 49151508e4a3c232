-- The text of all pairs: a head, the line of the script's own run, for each first fault the lines of its pairs that
-- have one and its own, and the sums.
use Rattle.std.specs.Prelude.{ℕ, not, List, [], ◌∷◌, ◌++◌, map, flat_map, filter, length, codes, decimal}
use Rattle.ttp_base.specs.NodeSet.{has_node}
use Rattle.ttp_base.specs.Text.{Lines, newline}
use Rattle.ttp_world.specs.declared.medl.Medl.{Medl}
use Rattle.ttp_world.specs.declared.script.Event.{Event}
use Rattle.ttp_world.specs.declared.script.Script.{Script}
use Rattle.campaign.specs.CostText.{listed, cost_words, fault_words}
use Rattle.campaign.specs.Lines.{Summary, summary, summary_with, own_line, fault_node, place_words}
use Rattle.campaign.specs.Tried.{with_fault}
use Rattle.ttp_world.specs.ZerosWorld.{zeros_world}
use Rattle.fault_pairs.specs.declared.pair.Harm.{Harm}
use Rattle.fault_pairs.specs.declared.pair.PairClass.{PairClass}
use Rattle.fault_pairs.specs.declared.pair.PairClass.TheVariants as class
use Rattle.fault_pairs.specs.declared.pair.PairCounts.{PairCounts}
use Rattle.fault_pairs.specs.Classes.{harm_of, third_nodes, pair_class, has_line}
use Rattle.fault_pairs.specs.Pairs.{FirstFault, SecondFault, firsts_from, seconds_of}
use Rattle.fault_pairs.specs.Sums.{PairTold, pair_counts, told_apart, told_kept, told_broken, distances}

-- Words.

-- the word of a class
abbrev pub class_word : PairClass → List ℕ
class_word class.Sum = codes "sum"
class_word class.Less = codes "less"
class_word class.Own = codes "own"
class_word class.Divided = codes "divided"
class_word class.Third = codes "third"
class_word class.Torn = codes "torn"
class_word class.Dead = codes "dead"

-- how many pairs, and how many of each class
abbrev pub counts_words : PairCounts → List ℕ
counts_words counts =
    codes "pairs " ++ decimal counts.pairs
    ++ codes " sum " ++ decimal counts.sum
    ++ codes " less " ++ decimal counts.less
    ++ codes " own " ++ decimal counts.own
    ++ codes " divided " ++ decimal counts.divided
    ++ codes " third " ++ decimal counts.third
    ++ codes " torn " ++ decimal counts.torn
    ++ codes " dead " ++ decimal counts.dead

-- Lines.

-- the range and the distance as they were asked for
abbrev pub pairs_head_line : Medl → Script → ℕ → ℕ → ℕ → List ℕ
pairs_head_line list script first last within =
    codes "ttplab pairs 1 nodes " ++ decimal (length list.slots) ++ codes " slots " ++ decimal script.slots
    ++ codes " from " ++ decimal first ++ codes " to " ++ decimal last ++ codes " within " ++ decimal within ++ newline

-- the words of a run that all lines have
abbrev pub test_and_cost : Medl → Summary → List ℕ
test_and_cost list s = s.test ++ codes " " ++ cost_words list s.cost

-- how many nodes left that did not leave in the script's own run
abbrev pub newly_left : Harm → Harm → ℕ
newly_left own alone = length (filter (λ k. not (has_node own.left k)) alone.left)

-- where a pair stands: its class, its slots and its nodes
abbrev pub pair_place : PairClass → ℕ → ℕ → Event → Event → List ℕ
pair_place class slot apart one two =
    codes "pair " ++ class_word class ++ codes " slot " ++ decimal slot ++ codes " apart " ++ decimal apart
    ++ codes " nodes " ++ decimal (fault_node one) ++ codes " " ++ decimal (fault_node two)

-- what its faults cost alone, and the third nodes
abbrev pub pair_harms : ℕ → ℕ → List ℕ → List ℕ
pair_harms one two third =
    codes " alone " ++ decimal one ++ codes " " ++ decimal two ++ codes " third "
    ++ listed (map decimal third) ++ codes " "

-- the two faults
abbrev pub pair_faults : Event → Event → List ℕ
pair_faults one two = codes " fault " ++ fault_words one ++ codes " and " ++ fault_words two ++ newline

-- the line of a pair, by what its runs come to: the script's own, with the first fault, with the second, and with both
abbrev pub pair_line : Medl → PairClass → FirstFault → SecondFault → Harm → Harm → Harm → Summary → List ℕ
pair_line list class one two own first second both =
    pair_place class one.slot two.apart one.fault two.fault
    ++ pair_harms (newly_left own first) (newly_left own second)
    (third_nodes (fault_node one.fault) (fault_node two.fault) (harm_of both.cost) first second)
    ++ test_and_cost list both ++ pair_faults one.fault two.fault

-- the line of a first fault
abbrev pub first_fault_line : Medl → FirstFault → Summary → PairCounts → List ℕ
first_fault_line list one s counts =
    place_words one.fault ++ test_and_cost list s ++ codes " " ++ counts_words counts
    ++ codes " fault " ++ fault_words one.fault ++ newline

-- a line of counts under a name
abbrev pub pair_counts_line : List ℕ → PairCounts → List ℕ
pair_counts_line name counts = name ++ counts_words counts ++ newline

abbrev pub apart_line : List PairTold → ℕ → List ℕ
apart_line tolds distance =
    pair_counts_line (codes "apart " ++ decimal distance ++ codes " ") (pair_counts (told_apart distance tolds))

-- What is told of a pair.

-- by the harms of its runs, and what the run with both comes to
abbrev pub told_by_harms : Medl → FirstFault → SecondFault → Harm → Harm → Harm → Summary → PairTold
told_by_harms list one two own first second both =
    let class =
    pair_class (fault_node one.fault) (fault_node two.fault) (harm_of both.cost) first second in
    record {
      apart = two.apart;
      yes = both.yes;
      class = class;
      line = pair_line list class one two own first second both;
    }

-- the run of a script with both faults
abbrev pub summary_of_both : Medl → Script → Event → Event → Summary
summary_of_both list script one two = summary list (with_fault (with_fault script one) two)

-- by the harm of the script's own run and of the first fault
abbrev pub told_of_pair : Medl → Script → Harm → FirstFault → Harm → SecondFault → PairTold
told_of_pair list script own one first two =
    told_by_harms list one two own first (harm_of (summary_with list script two.fault).cost)
    (summary_of_both list script one.fault two.fault)

-- the pairs of a first fault, by what the run with it comes to
abbrev pub pair_tolds_with : Medl → Script → ℕ → Harm → FirstFault → Summary → List PairTold
pair_tolds_with list script within own one s =
    map (told_of_pair list script own one (harm_of s.cost)) (seconds_of list script within one)

abbrev pub pair_tolds : Medl → Script → ℕ → Harm → FirstFault → List PairTold
pair_tolds list script within own one = pair_tolds_with list script within own one (summary_with list script one.fault)

-- the lines of those that have one
abbrev pub lines_of_told : List PairTold → Lines
lines_of_told tolds = map (λ told. told.line) (filter (λ told. has_line told.class) tolds)

-- the lines of a first fault: those of its pairs, and its own
abbrev pub lines_by_told : Medl → FirstFault → Summary → List PairTold → Lines
lines_by_told list one s tolds = lines_of_told tolds ++ first_fault_line list one s (pair_counts tolds) ∷ []

abbrev pub first_fault_lines : Medl → Script → ℕ → Harm → FirstFault → Lines
first_fault_lines list script within own one =
    lines_by_told list one (summary_with list script one.fault) (pair_tolds list script within own one)

-- The whole.

-- the sums: by distance, and by what the test says
abbrev pub sum_lines : Script → ℕ → List PairTold → Lines
sum_lines script within tolds =
    map (apart_line tolds) (distances script within tolds)
    ++ pair_counts_line (codes "kept ") (pair_counts (told_kept tolds))
    ∷ pair_counts_line (codes "broken ") (pair_counts (told_broken tolds)) ∷ []

-- all lines, by what the script's own run comes to and the first faults
abbrev pub lines_of_firsts : Medl → Script → ℕ → ℕ → ℕ → Summary → List FirstFault → Lines
lines_of_firsts list script first last within own firsts =
    pairs_head_line list script first last within ∷ own_line list own
    ∷ flat_map (first_fault_lines list script within (harm_of own.cost)) firsts
    ++ sum_lines script within (flat_map (pair_tolds list script within (harm_of own.cost)) firsts)

-- the text of all pairs of which the first fault begins in a range of slots, and the second up to so many slots later
abbrev pub pairs_lines : Medl → Script → ℕ → ℕ → ℕ → Lines
pairs_lines list script first last within =
    lines_of_firsts list script first last within (summary list script)
    (firsts_from list script (zeros_world list script script.slots) first last)
