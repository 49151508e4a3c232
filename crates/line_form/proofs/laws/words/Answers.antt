use Rattle.line_form.proofs.KindLaws.{again}
use Rattle.line_form.proofs.ReadLaws.{word_same}
use Rattle.line_form.proofs.laws.words.Goals as goal

pub returns : goal.returns
returns c = record { again = again; same = word_same }
