use Rattle.line_form.proofs.FormLaws.{read_again, reads-found}
use Rattle.line_form.proofs.laws.lines.Goals as goal

pub returns : goal.returns
returns c = record { again = read_again; same = reads-found }
