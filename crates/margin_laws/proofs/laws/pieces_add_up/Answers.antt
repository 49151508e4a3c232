use Rattle.margin_laws.proofs.Added.{together}
use Rattle.margin_laws.proofs.laws.pieces_add_up.Goals as goal

pub returns : goal.returns
returns c = λ some others. together some others
