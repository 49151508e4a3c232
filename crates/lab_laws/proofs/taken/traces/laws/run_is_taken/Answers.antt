use Rattle.std.proofs.Common.{◌∙◌}
use Rattle.lab_laws.proofs.WholeTaken.{slots-counted, whole-taken}
use Rattle.lab_laws.proofs.taken.traces.laws.run_is_taken.Goals as goal

pub returns : goal.returns
returns c = record {
  trace = λ list script numbers valid valid_script bytes legal.
      whole-taken list script valid valid_script numbers bytes legal.count legal.legal;
  slots = λ list script numbers legal. slots-counted list script numbers ∙ legal.count;
}
