use Rattle.controller.proofs.Words.{◌+◌, arith}
use Rattle.controller.proofs.SameWorlds.{surroundings_of-same}
use Rattle.controller.proofs.laws.plants_of_scripts_that_agree.Goals as goal

pub returns : goal.returns
returns c plant one other history agree stands = record {
  slot = stands.slot;
  count = stands.count;
  are = stands.are;
  seats = record {
    each = λ j seat here.
        rw (surroundings_of-same agree history (0 + j) (omega (arith, stands.slot)))
        at (stands.seats.each j seat here);
  };
}
