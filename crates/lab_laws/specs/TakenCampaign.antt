-- The campaign that the text of the campaigns over some ranges is taken for, as a value.
use Rattle.std.specs.Prelude.{ℕ, ◌+◌, nat_le, Bool, true, false, List, [], ◌∷◌, ◌++◌, map, length, flat_map, is_some}
use Rattle.std.specs.List.{list_any}
use Rattle.ttp_world.specs.declared.medl.Medl.{Medl}
use Rattle.ttp_world.specs.declared.node.Entry.{Entry}
use Rattle.ttp_world.specs.declared.script.Event.{Event}
use Rattle.ttp_world.specs.declared.script.Event.TheVariants as event
use Rattle.ttp_world.specs.declared.script.Script.{Script}
use Rattle.ttp_world.specs.Diary.{History}
use Rattle.ttp_world.specs.Hypothesis.{nodes_of, keeps}
use Rattle.ttp_world.specs.Returning.{has_arm, returns}
use Rattle.campaign.specs.declared.cost.Span.{Span}
use Rattle.campaign.specs.CostText.{unended, cost_words}
use Rattle.campaign.specs.Lines.{Summary, summary, own_line, fault_slot, fault_node, is_same_cost, kept_counts}
use Rattle.campaign.specs.Lines.{broken_counts, summary_with, run_line}
use Rattle.campaign.specs.Tried.{losses_of, jumps_of, row_of, slots_between, faults_from}
use Rattle.ttp_world.specs.ZerosWorld.{zeros_world}
use Rattle.whole_campaign.specs.declared.shown.Doing.{Doing}
use Rattle.whole_campaign.specs.declared.shown.Doing.TheVariants as doing
use Rattle.whole_campaign.specs.declared.shown.FaultShown.{FaultShown}
use Rattle.whole_campaign.specs.declared.shown.Piece.{Piece}
use Rattle.whole_campaign.specs.declared.shown.Test.{Test}
use Rattle.whole_campaign.specs.declared.shown.Test.TheVariants as test
use Rattle.whole_campaign.specs.Own.{OwnShown}
use Rattle.whole_campaign.specs.Whole.{FaultTold, WholeCampaign}

-- The line of the script's own run.

-- what the test of a script says
abbrev pub test_said_if : Medl → Script → Bool → Test
test_said_if list script true = test.Back (returns list script)
test_said_if list script false = test.Keep (keeps list script)

abbrev pub test_said : Medl → Script → Test
test_said list script = test_said_if list script (has_arm script)

abbrev pub own_told : Medl → Script → OwnShown
own_told list script =
    let s = summary list script in
    record {
      text = unended (own_line list s);
      test_text = s.test;
      cost = cost_words list s.cost;
      test = test_said list script;
    }

-- The lines of faults.

abbrev pub doing_of : Event → Doing
doing_of (event.Send node channels kind from to) = doing.Send
doing_of (event.Receive node channels kind from to) = doing.Receive
doing_of _ = doing.Jump

-- of a fault at this place, by the run of the script with it
abbrev pub shown_of_run : Medl → Script → ℕ → Event → Summary → FaultShown
shown_of_run list script place fault s = record {
  slot = fault_slot fault;
  node = fault_node fault;
  doing = doing_of fault;
  place = place;
  yes = s.yes;
  same = is_same_cost list (summary list script).cost s.cost;
  hurt = length s.cost.hurt;
  split = is_some s.cost.split;
  memberships = length s.cost.end;
  company = list_any (λ members. nat_le 2 (length members)) s.cost.end;
}

abbrev pub run_told : Medl → Script → ℕ → Event → FaultTold
run_told list script place fault = record {
  shown = shown_of_run list script place fault (summary_with list script fault);
  text = unended (run_line list script fault);
}

-- faults at places one behind another, from this one on
abbrev pub told_from : Medl → Script → ℕ → List Event → List FaultTold
told_from list script place [] = []
told_from list script place (fault ∷ faults) =
    run_told list script place fault ∷ told_from list script (place + 1) faults

-- the losses of a node in a slot have the places from 0 on, and its jumps those from 12 on
abbrev pub told_of_node : Medl → Script → List Entry → ℕ → ℕ → List FaultTold
told_of_node list script row slot k =
    told_from list script 0 (losses_of script row slot k) ++ told_from list script 12 (jumps_of list row slot k)

abbrev pub told_in_slot : Medl → Script → List Entry → ℕ → List FaultTold
told_in_slot list script row slot = flat_map (told_of_node list script row slot) (nodes_of list)

-- by the history of the script's own run
abbrev pub told_between : Medl → Script → History → ℕ → ℕ → List FaultTold
told_between list script history first last =
    flat_map (λ slot. told_in_slot list script (row_of history slot) slot) (slots_between script first last)

-- The pieces.

-- a range, with the counts of these faults
abbrev pub piece_with : Medl → Script → Span → List Event → Piece
piece_with list script range faults = record {
  first = range.first;
  last = range.last;
  kept = kept_counts list (summary list script).cost (map (summary_with list script) faults);
  broken = broken_counts list (summary list script).cost (map (summary_with list script) faults);
}

abbrev pub piece_over : Medl → Script → Span → Piece
piece_over list script range =
    piece_with list script range (faults_from list script (zeros_world list script script.slots) range.first range.last)

-- The whole.

abbrev pub faults_over : Medl → Script → Span → List FaultTold
faults_over list script range =
    told_between list script (zeros_world list script script.slots) range.first range.last

-- the campaign over these ranges
abbrev pub campaign_over : Medl → Script → List Span → WholeCampaign
campaign_over list script ranges = record {
  nodes = length list.slots;
  slots = script.slots;
  own = own_told list script;
  pieces = map (piece_over list script) ranges;
  faults = flat_map (faults_over list script) ranges;
}
