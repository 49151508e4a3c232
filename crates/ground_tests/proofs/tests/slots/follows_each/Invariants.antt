use Rattle.std.proofs.Common.{◌≡◌}
use Rattle.controller.specs.PlantWithin.{IsEnded}
use Rattle.ground_tests.proofs.tests.slots.follows_each.Given as goal

abbrev pub invariant-loop-step : goal.invariant-loop-step
invariant-loop-step l = record { list : l.list ≡ l.node.list; turn : IsEnded l.node.turn }
