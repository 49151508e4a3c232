use Rattle.wave_text.proofs.Telling.{told_narrow, told_wide}
use Rattle.wave_text.proofs.laws.values_tell_lines.Goals as goal

pub returns-clause-narrow : goal.returns-clause-narrow
returns-clause-narrow c = told_narrow

pub returns-clause-wide : goal.returns-clause-wide
returns-clause-wide c = told_wide
