-- The text of a campaign: its head, a line of the script's own run, a line for each fault, and two lines of counts.
use Rattle.std.specs.Prelude.{ℕ, nat_le, Bool, not, ◌==◌, List, [], ◌∷◌, ◌++◌, map, length, filter}
use Rattle.std.specs.Prelude.{count_by, is_some, codes, decimal}
use Rattle.std.specs.List.{list_any}
use Rattle.std.specs.Str.{bytes_eq}
use Rattle.ttp_base.specs.Text.{Lines, newline}
use Rattle.ttp_world.specs.declared.medl.Medl.{Medl}
use Rattle.ttp_world.specs.declared.script.Event.{Event}
use Rattle.ttp_world.specs.declared.script.Event.TheVariants as event
use Rattle.ttp_world.specs.declared.script.Script.{Script}
use Rattle.ttp_world.specs.Diary.{History}
use Rattle.campaign.specs.declared.cost.Cost.{Cost}
use Rattle.campaign.specs.declared.cost.Counts.{Counts}
use Rattle.campaign.specs.Cost.{says_yes, has_two, cost_of}
use Rattle.campaign.specs.CostText.{test_words, cost_words, fault_words}
use Rattle.campaign.specs.Tried.{with_fault, faults_from}
use Rattle.ttp_world.specs.ZerosWorld.{zeros_world}

-- What a line tells of a run.

-- what the test of its script says, and what the run cost
pub record Summary : Type 0 where
  pub yes : Bool
  pub test : List ℕ
  pub cost : Cost

-- by the history of the run
abbrev pub summary_of : Medl → Script → History → Summary
summary_of list script history = record {
  yes = says_yes list script;
  test = test_words list script;
  cost = cost_of list script history;
}

-- what the run of a script comes to
abbrev pub summary : Medl → Script → Summary
summary list script = summary_of list script (zeros_world list script script.slots)

-- The lines of runs.

-- the words that all lines of runs have, up to the fault
abbrev pub summary_words : Medl → Summary → List ℕ
summary_words list s = s.test ++ codes " " ++ cost_words list s.cost ++ codes " fault "

-- the line of the script's own run
abbrev pub own_line : Medl → Summary → List ℕ
own_line list s = codes "slot - node - " ++ summary_words list s ++ codes "-" ++ newline

-- the slot in which a fault begins, and its node
abbrev pub fault_slot : Event → ℕ
fault_slot (event.Send node channels kind from to) = from
fault_slot (event.Receive node channels kind from to) = from
fault_slot (event.Jump node value slot) = slot
fault_slot _ = 0

-- the node of a fault
abbrev pub fault_node : Event → ℕ
fault_node (event.Send node channels kind from to) = node
fault_node (event.Receive node channels kind from to) = node
fault_node (event.Jump node value slot) = node
fault_node _ = 0

-- the words for where a fault begins
abbrev pub place_words : Event → List ℕ
place_words fault = codes "slot " ++ decimal (fault_slot fault) ++ codes " node "
    ++ decimal (fault_node fault) ++ codes " "

-- the line of a fault
abbrev pub fault_line : Medl → Event → Summary → List ℕ
fault_line list fault s = place_words fault ++ summary_words list s ++ fault_words fault ++ newline

-- Counts.

-- as the words of the script's own run have it
abbrev pub is_same_cost : Medl → Cost → Cost → Bool
is_same_cost list own cost = bytes_eq (cost_words list own) (cost_words list cost)

-- some node was hurt
abbrev pub has_hurt : Cost → Bool
has_hurt cost = not (length cost.hurt == 0)

-- two or more memberships are left
abbrev pub is_torn : Cost → Bool
is_torn cost = has_two cost.end

-- none of two nodes or more is
abbrev pub is_dead : Cost → Bool
is_dead cost = not (list_any (λ members. nat_le 2 (length members)) cost.end)

-- how many there are, and for how many of them each is so
abbrev pub counts_of : Medl → Cost → List Cost → Counts
counts_of list own costs = record {
  runs = length costs;
  same = count_by (is_same_cost list own) costs;
  hurt = count_by has_hurt costs;
  split = count_by (λ cost. is_some cost.split) costs;
  torn = count_by is_torn costs;
  dead = count_by is_dead costs;
}

-- a line of counts under a name
abbrev pub counts_line : List ℕ → Counts → List ℕ
counts_line name counts =
    name ++ decimal counts.runs
    ++ codes " same " ++ decimal counts.same
    ++ codes " hurt " ++ decimal counts.hurt
    ++ codes " split " ++ decimal counts.split
    ++ codes " torn " ++ decimal counts.torn
    ++ codes " dead " ++ decimal counts.dead ++ newline

-- the costs alone
abbrev pub costs_of : List Summary → List Cost
costs_of summaries = map (λ s. s.cost) summaries

-- of the runs whose test says yes, and of those whose test says no
abbrev pub kept_counts : Medl → Cost → List Summary → Counts
kept_counts list own summaries = counts_of list own (costs_of (filter (λ s. s.yes) summaries))

abbrev pub broken_counts : Medl → Cost → List Summary → Counts
broken_counts list own summaries = counts_of list own (costs_of (filter (λ s. not s.yes) summaries))

-- The whole.

-- the range as it was asked for
abbrev pub head_line : Medl → Script → ℕ → ℕ → List ℕ
head_line list script first last =
    codes "ttplab campaign 1 nodes " ++ decimal (length list.slots) ++ codes " slots " ++ decimal script.slots
    ++ codes " from " ++ decimal first ++ codes " to " ++ decimal last ++ newline

-- the run of the script with one fault more
abbrev pub summary_with : Medl → Script → Event → Summary
summary_with list script fault = summary list (with_fault script fault)

-- the line of its run
abbrev pub run_line : Medl → Script → Event → List ℕ
run_line list script fault = fault_line list fault (summary_with list script fault)

-- all lines, by what the script's own run comes to and the faults that are tried
abbrev pub lines_with : Medl → Script → ℕ → ℕ → Summary → List Event → Lines
lines_with list script first last own faults =
    head_line list script first last ∷ own_line list own ∷ map (run_line list script) faults
    ++ counts_line (codes "kept ") (kept_counts list own.cost (map (summary_with list script) faults))
    ∷ counts_line (codes "broken ") (broken_counts list own.cost (map (summary_with list script) faults)) ∷ []

-- the text of a campaign over a range of slots
abbrev pub campaign_lines : Medl → Script → ℕ → ℕ → Lines
campaign_lines list script first last =
    lines_with list script first last (summary list script)
    (faults_from list script (zeros_world list script script.slots) first last)
