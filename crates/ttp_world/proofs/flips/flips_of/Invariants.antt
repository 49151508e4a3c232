use Rattle.ttp_world.proofs.Words.{◌≡◌, take, keyed_flip, HasFlipKey}
use Rattle.std.specs.List.{All, filter_map}
use Rattle.ttp_world.proofs.flips.flips_of.Given as goal

abbrev pub invariant-loop-event : goal.invariant-loop-event
invariant-loop-event l = record {
  value : l.flips ≡ filter_map keyed_flip (take l.event-index l.events);
  slots : All HasFlipKey (take l.event-index l.events);
}
