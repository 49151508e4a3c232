use Rattle.std.proofs.Common.{◌≡◌}
use Rattle.ttp_world.specs.Diary.{History}
use Rattle.controller.specs.PlantStands.{PlantStandsFor}
use Rattle.ground_tests.proofs.tests.plants.after_of.Given as goal

abbrev pub invariant-loop : goal.invariant-loop
invariant-loop l = record {
  list : l.plant.list ≡ l.list;
  slot : l.plant.slot ≡ l.counter;
  history : History;
  stands : PlantStandsFor l.plant l.script history;
}
