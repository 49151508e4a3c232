use Rattle.script_text.proofs.Terms.{take}
use Rattle.script_text.proofs.WordCuts.{parts-digits}
use Rattle.script_text.proofs.words.front_word.Goals as goal

pub cut_word-requires-clause-word : goal.cut_word-requires-clause-word
cut_word-requires-clause-word c = parts-digits (take c.front_digits-digits.result.count c.args.line.now)
    c.front_digits-digits.ensures.digits

pub word_end-requires-clause-known : goal.word_end-requires-clause-known
word_end-requires-clause-known c = parts-digits (take c.front_digits-digits.result.count c.args.line.now)
    c.front_digits-digits.ensures.digits
