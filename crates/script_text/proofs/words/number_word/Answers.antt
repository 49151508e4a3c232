use Rattle.script_text.proofs.Terms.{take}
use Rattle.script_text.proofs.WordCuts.{parts-digits}
use Rattle.script_text.proofs.words.number_word.Goals as goal

pub cut_word-requires-clause-word : goal.cut_word-requires-clause-word
cut_word-requires-clause-word c = parts-digits (take c.front_digits-digits.result.count c.past_blanks-line.result.now)
    c.front_digits-digits.ensures.digits
