-- Plans that were worked out by hand: of seven nodes one is lost by each kind of incident, or one returns.
use Rattle.std.specs.Prelude.{pos, true, false, [], ◌∷◌, replicate, Some}
use Rattle.ttp_world.specs.declared.medl.Kind.TheVariants as kind
use Rattle.ttp_world.specs.declared.medl.Medl.{Medl}
use Rattle.ttp_world.specs.declared.medl.SlotPlan.{SlotPlan}
use Rattle.ttp_world.specs.declared.script.Event.TheVariants as event
use Rattle.ttp_world.specs.declared.script.Fault.TheVariants as fault
use Rattle.ttp_world.specs.declared.script.Script.{Script}
use Rattle.ttp_world.specs.Hypothesis.{ClusterStart}
use Rattle.safety_laws.specs.Plan.{FaultPlan, Sending, Receiving, Jumping}

abbrev bare_slot : SlotPlan
bare_slot = record { kinds = kind.I ∷ []; payload = 0; sync = true; start = true; requests = false; live = 1 }

-- seven nodes in one round, with I-frames: each is measured and may start, the drift is 1 and the window 100 microticks
abbrev pub seven_nodes : Medl
seven_nodes = record {
  version = 1;
  rounds = 1;
  schedule = 0;
  buffers = 2;
  drift = pos 1;
  error = pos 0;
  window = pos 100;
  modes = 1;
  slots = replicate 7 bare_slot;
}

-- What node 2 sends in slot 30 is silenced. Node 5 hears noise in slot 45, where node 3 sends. Node 0's clock jumps by
-- four windows in slot 60, where node 4 sends.
abbrev pub three_faults : Script
three_faults = record {
  slots = 64;
  on = replicate 7 (Some 0);
  drift = replicate 7 (pos 0);
  events = event.Send 2 (record { a = true; b = true }) fault.Silence 30 30
      ∷ event.Receive 5 (record { a = true; b = true }) fault.Noise 45 45 ∷ event.Jump 0 (pos 400) 60 ∷ [];
}

-- node 0 starts after two silent rounds
abbrev pub first_start : ClusterStart
first_start = record { slot = 14; node = 0 }

-- the plan of the script with three faults
abbrev pub three_losses : FaultPlan
three_losses = record {
  nodes = 7;
  starter = 0;
  slots = 50;
  begin = 0 ∷ 1 ∷ 2 ∷ 3 ∷ 4 ∷ 5 ∷ 6 ∷ [];
  measured = 0 ∷ 1 ∷ 2 ∷ 3 ∷ 4 ∷ 5 ∷ 6 ∷ [];
  incidents = record { slot = 46; node = 0; change = Jumping } ∷ record { slot = 31; node = 5; change = Receiving }
      ∷ record { slot = 16; node = 2; change = Sending } ∷ [];
  returns = [];
}

-- node 2 alone is lost, in its own slot 16; it is armed in its own slot 30, and enters in slot 31, which is node 3's
abbrev pub one_return : FaultPlan
one_return = record three_losses {
  incidents = record { slot = 16; node = 2; change = Sending } ∷ [];
  returns = record { node = 2; armed = 30; entered = 31 } ∷ [];
}
