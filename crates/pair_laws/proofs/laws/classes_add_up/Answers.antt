use Rattle.pair_laws.proofs.Counted.{classes-counted}
use Rattle.pair_laws.proofs.laws.classes_add_up.Goals as goal

pub returns : goal.returns
returns c = λ tolds. classes-counted tolds
