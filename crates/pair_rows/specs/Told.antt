-- What is told of two faults that are given.
use Rattle.std.specs.Prelude.{ℕ, ◌==◌, Bool, ◌&&◌, List, [], count_by}
use Rattle.ttp_world.specs.declared.medl.Medl.{Medl}
use Rattle.ttp_world.specs.declared.script.Event.{Event}
use Rattle.ttp_world.specs.declared.script.Script.{Script}
use Rattle.campaign.specs.Lines.{summary, summary_with, fault_node}
use Rattle.fault_pairs.specs.declared.pair.PairClass.{PairClass}
use Rattle.fault_pairs.specs.Classes.{harm_of}
use Rattle.fault_pairs.specs.Pairs.{FirstFault, SecondFault, second_apart}
use Rattle.fault_pairs.specs.PairText.{told_of_pair}
use Rattle.fault_pairs.specs.Sums.{PairTold}

-- a first fault of a slot, whatever stands behind it
abbrev pub first_in : ℕ → Event → FirstFault
first_in slot fault = record { slot = slot; fault = fault; behind = [] }

-- of a first fault of a slot, and a second one so many slots behind it
abbrev pub told_case : Medl → Script → ℕ → ℕ → Event → Event → PairTold
told_case list script slot apart one two =
    told_of_pair list script (harm_of (summary list script).cost) (first_in slot one)
    (harm_of (summary_with list script one).cost) (second_apart apart two)

-- its class, and whether its test says yes, where both stand in one slot
abbrev pub class_case : Medl → Script → ℕ → Event → Event → PairClass
class_case list script slot one two = (told_case list script slot 0 one two).class

abbrev pub yes_case : Medl → Script → ℕ → Event → Event → Bool
yes_case list script slot one two = (told_case list script slot 0 one two).yes

-- how many second faults are so many slots behind the first, and how many of these are of node k
abbrev pub how_many_apart : List SecondFault → ℕ → ℕ
how_many_apart seconds distance = count_by (λ two. two.apart == distance) seconds

abbrev pub how_many_of : ℕ → List SecondFault → ℕ → ℕ
how_many_of k seconds distance = count_by (λ two. (two.apart == distance) && (fault_node two.fault == k)) seconds
