use Rattle.ttp_top.proofs.Callers.{own_text}
use Rattle.ttp_top.proofs.laws.own_text.Goals as goal

pub returns : goal.returns
returns c = own_text
