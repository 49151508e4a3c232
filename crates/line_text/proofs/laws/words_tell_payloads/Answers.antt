use Rattle.line_text.proofs.PayloadWords.{words_tell}
use Rattle.line_text.proofs.laws.words_tell_payloads.Goals as goal

pub returns : goal.returns
returns c = words_tell
