use Rattle.hypothesis.proofs.Words.{refl, arith}
use Rattle.hypothesis.proofs.newest.no_slots.Goals as goal

pub returns-clause-newest : goal.returns-clause-newest
returns-clause-newest c = λ list script start.
    record {
      room = refl;
      told = λ t nothing less near. absurd (omega arith);
    }
