use Rattle.std.proofs.Common.{sym}
use Rattle.ttp_frame.proofs.Words.{check_word-none}
use Rattle.ttp_frame.proofs.check_word.check.Check.new.Goals as goal

pub returns-clause-stands : goal.returns-clause-stands
returns-clause-stands c = sym (check_word-none c.args.start c.requires)
