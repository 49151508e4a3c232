-- What is told of a value: the test of its script, and what its run costs, in which the node that is swept counts as
-- faulty in every slot besides. For its clock is what is out of specification, whether a rule says so or not.
use Rattle.std.specs.Prelude.{ℕ, ◌==◌, ℤ, Bool, true, false, ◌&&◌, ◌||◌, not, List, [], ◌∷◌, map, length}
use Rattle.ttp_base.specs.NodeSet.{has_node, without_node}
use Rattle.ttp_world.specs.declared.medl.Medl.{Medl}
use Rattle.ttp_world.specs.declared.script.Script.{Script}
use Rattle.ttp_world.specs.Diary.{History}
use Rattle.ttp_world.specs.Returning.{is_sound}
use Rattle.ttp_world.specs.Safety.{newest_slot}
use Rattle.campaign.specs.Cost.{faulty_by_test, leaves, hurt_nodes, memberships, has_two}
use Rattle.campaign.specs.CostText.{test_words}
use Rattle.ttp_world.specs.ZerosWorld.{zeros_world}
use Rattle.clock_margins.specs.declared.margin.Costs.{Costs}
use Rattle.clock_margins.specs.declared.margin.Costs.TheVariants as costs
use Rattle.clock_margins.specs.declared.margin.Outcome.{Outcome}
use Rattle.clock_margins.specs.declared.margin.Sweep.{Sweep}
use Rattle.clock_margins.specs.Sweeps.{swept_script}

-- What is read of a run.

-- a node is correct after a slot, and is not node k
abbrev pub is_sound_beside : Medl → Script → ℕ → ℕ → ℕ → Bool
is_sound_beside list script k slot other =
    not (other == k) && is_sound script (faulty_by_test list script slot) slot other

-- memberships are split after the newest slot: such nodes hold two or more
abbrev pub is_split_beside : Medl → Script → ℕ → History → Bool
is_split_beside list script k history =
    has_two (memberships list history (is_sound_beside list script k (newest_slot history)))

-- after some slot
abbrev pub was_split_beside : Medl → Script → ℕ → History → Bool
was_split_beside list script k [] = false
was_split_beside list script k (row ∷ history) =
    is_split_beside list script k (row ∷ history) || was_split_beside list script k history

-- what a run costs where node k counts as faulty besides
abbrev pub outcome_beside : Medl → Script → ℕ → History → Outcome
outcome_beside list script k history = record {
  left = map (λ leave. leave.node) (leaves list history);
  hurt = without_node (hurt_nodes list script history) k;
  split = was_split_beside list script k history;
  end = memberships list history (λ other. true);
}

-- What is told of a value.

pub record ValueTold : Type 0 where
  pub value : ℤ
  pub test : List ℕ
  pub outcome : Outcome

-- by the script of its run
abbrev pub told_by_script : Medl → Script → ℕ → ℤ → ValueTold
told_by_script list script k value = record {
  value = value;
  test = test_words list script;
  outcome = outcome_beside list script k (zeros_world list script script.slots);
}

-- of a value of a sweep
abbrev pub told_of_value : Medl → Script → Sweep → ℤ → ValueTold
told_of_value list script sweep value = told_by_script list (swept_script script sweep value) sweep.node value

-- Whom a value costs.

abbrev pub costs_by : Bool → Bool → Costs
costs_by true own = costs.Others
costs_by false true = costs.Itself
costs_by false false = costs.Nobody

-- others where some node was hurt, and else node k itself where it left
abbrev pub whom_it_costs : ℕ → Outcome → Costs
whom_it_costs k outcome = costs_by (not (length outcome.hurt == 0)) (has_node outcome.left k)

abbrev pub is_nobody : Costs → Bool
is_nobody costs.Nobody = true
is_nobody _ = false

abbrev pub is_itself : Costs → Bool
is_itself costs.Itself = true
is_itself _ = false

abbrev pub is_others : Costs → Bool
is_others costs.Others = true
is_others _ = false

-- a value costs no other node
abbrev pub costs_nobody : ℕ → ValueTold → Bool
costs_nobody k told = is_nobody (whom_it_costs k told.outcome)

abbrev pub costs_itself : ℕ → ValueTold → Bool
costs_itself k told = is_itself (whom_it_costs k told.outcome)

abbrev pub costs_others : ℕ → ValueTold → Bool
costs_others k told = is_others (whom_it_costs k told.outcome)
