use Rattle.line_form.proofs.FormLaws.{one_line}
use Rattle.line_form.proofs.Lengths.{text-length}
use Rattle.line_form.proofs.laws.texts.Goals as goal

pub returns : goal.returns
returns c = record { length = text-length; line = one_line }
