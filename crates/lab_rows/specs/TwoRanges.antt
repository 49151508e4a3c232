-- Two ranges of a campaign: two nodes of four are on, node 0 starts in slot 8, and node 1 sends in slot 9.
use Rattle.std.specs.Prelude.{ℕ, pos, true, false, List, [], ◌∷◌, map, replicate, Some, None}
use Rattle.ttp_base.specs.NodeSet.{below, has_node}
use Rattle.ttp_world.specs.declared.medl.Kind.TheVariants as kind
use Rattle.ttp_world.specs.declared.medl.Medl.{Medl}
use Rattle.ttp_world.specs.declared.medl.SlotPlan.{SlotPlan}
use Rattle.ttp_world.specs.declared.script.Script.{Script}
use Rattle.campaign.specs.declared.cost.Span.{Span}
use Rattle.whole_campaign.specs.Whole.{WholeCampaign}
use Rattle.lab_laws.specs.TakenCampaign.{campaign_over}

-- node 0 may start the cluster
abbrev bare_plan : ℕ → SlotPlan
bare_plan k = record {
  kinds = kind.I ∷ [];
  payload = 0;
  sync = true;
  start = has_node (0 ∷ []) k;
  requests = false;
  live = 1;
}

abbrev four_nodes : Medl
four_nodes = record {
  version = 1;
  rounds = 1;
  schedule = 0;
  buffers = 2;
  drift = pos 0;
  error = pos 0;
  window = pos 1;
  modes = 1;
  slots = map bare_plan (below 4);
}

abbrev two_on : Script
two_on = record {
  slots = 11;
  on = Some 0 ∷ Some 0 ∷ None ∷ None ∷ [];
  drift = replicate 4 (pos 0);
  events = [];
}

-- the slots before the start, and the one behind it
abbrev pub before_and_behind : List Span
before_and_behind = record { first = 0; last = 7 } ∷ record { first = 9; last = 9 } ∷ []

-- the campaign over them
abbrev pub two_ranges_taken : WholeCampaign
two_ranges_taken = campaign_over four_nodes two_on before_and_behind
