use Rattle.std.proofs.Common.{rules}
use Rattle.wave_text.proofs.Words.{binary_number}
use Rattle.wave_text.proofs.Numbers.{are_numbers, number_at, number_short}
use Rattle.wave_text.proofs.draft.small_number_text.Goals as goal

pub returns-clause-text : goal.returns-clause-text
unfolding binary_number are_numbers
returns-clause-text c = search (rules, number_at)

pub returns-clause-short : goal.returns-clause-short
unfolding binary_number are_numbers
returns-clause-short c = search (rules, number_short)
