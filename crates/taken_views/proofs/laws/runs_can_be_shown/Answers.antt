use Rattle.lab_laws.proofs.WholeTaken.{whole-taken}
use Rattle.theorems.proofs.ForAbove.{trace-short}
use Rattle.taken_views.proofs.laws.runs_can_be_shown.Goals as goal

pub returns : goal.returns
returns c = λ list script numbers asked valid valid_script bytes legal slots. record {
  size = trace-short list script numbers valid valid_script legal.count legal.legal;
  whole = whole-taken list script valid valid_script numbers bytes legal.count legal.legal;
  slots = slots;
}
