use Rattle.ttp_frame.proofs.WordLaws.{own_word_gives_zero}
use Rattle.ttp_frame.proofs.check_word.laws.own_word_gives_zero.Goals as goal

pub returns : goal.returns
returns c = own_word_gives_zero
