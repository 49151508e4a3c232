use Rattle.std.proofs.Common.{[], ◌∷◌}
use Rattle.ttp_frame.proofs.Words.{check_word-lt, check_word-step}
use Rattle.ttp_frame.proofs.check_word.check.next_word.Goals as goal

pub returns-clause-fits : goal.returns-clause-fits
returns-clause-fits c =
    rw (c.word_of.ensures, check_word-step c.args.word c.args.byte) (check_word-lt c.args.word (c.args.byte ∷ []))

pub returns-clause-value : goal.returns-clause-value
returns-clause-value c = rw c.word_of.ensures (check_word-step c.args.word c.args.byte)
