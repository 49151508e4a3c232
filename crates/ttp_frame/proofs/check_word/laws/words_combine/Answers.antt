use Rattle.ttp_frame.proofs.WordLaws.{words_combine}
use Rattle.ttp_frame.proofs.check_word.laws.words_combine.Goals as goal

pub returns : goal.returns
returns c = words_combine
