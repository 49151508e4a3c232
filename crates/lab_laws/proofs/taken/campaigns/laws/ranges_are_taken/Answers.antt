use Rattle.lab_laws.proofs.Pieces.{ranges-taken}
use Rattle.lab_laws.proofs.taken.campaigns.laws.ranges_are_taken.Goals as goal

pub returns : goal.returns
returns c = λ list script range ranges valid valid_script are.
    ranges-taken list script valid valid_script range ranges are
