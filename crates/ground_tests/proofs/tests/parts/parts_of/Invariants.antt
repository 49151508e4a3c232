use Rattle.ttp_world.specs.Diary.{History}
use Rattle.controller.specs.PlantStands.{PlantStandsFor, plant_of}
use Rattle.ground_tests.proofs.tests.parts.parts_of.Given as goal

abbrev pub invariant-loop-slot : goal.invariant-loop-slot
invariant-loop-slot l = record {
  history : History;
  stands : PlantStandsFor (plant_of l.list l.slot l.seats.items l.medium) l.script history;
}
