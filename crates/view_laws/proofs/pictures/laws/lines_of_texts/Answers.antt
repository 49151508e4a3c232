use Rattle.view_laws.proofs.TextLines.{text-lines}
use Rattle.view_laws.proofs.pictures.laws.lines_of_texts.Goals as goal

pub returns : goal.returns
returns c = λ text trace is. (text-lines text trace is).are
