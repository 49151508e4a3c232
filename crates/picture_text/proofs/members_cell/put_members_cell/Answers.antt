use Rattle.picture_text.proofs.Words.{arith}
use Rattle.ttp_base.proofs.Puts.{puts_then, puts_none}
use Rattle.picture_text.proofs.members_cell.put_members_cell.Goals as goal

pub returns-in-empty : goal.returns-in-empty
returns-in-empty g c = grind (arith, puts_then, puts_none)

pub returns-in-len1 : goal.returns-in-len1
returns-in-len1 g c = grind (arith, puts_then, puts_none)

pub returns-in_default : goal.returns-in_default
returns-in_default g c = grind (arith, puts_then, puts_none)
