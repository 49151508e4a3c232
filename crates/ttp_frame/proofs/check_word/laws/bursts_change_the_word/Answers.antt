use Rattle.ttp_frame.proofs.WordLaws.{bursts_change_the_word}
use Rattle.ttp_frame.proofs.check_word.laws.bursts_change_the_word.Goals as goal

pub returns : goal.returns
returns c = bursts_change_the_word
