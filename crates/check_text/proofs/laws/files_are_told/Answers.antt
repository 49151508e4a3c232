use Rattle.check_text.proofs.Telling.{is_told}
use Rattle.check_text.proofs.laws.files_are_told.Goals as goal

pub returns : goal.returns
returns c = λ file beside. is_told file beside
