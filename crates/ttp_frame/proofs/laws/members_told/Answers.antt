use Rattle.ttp_frame.proofs.FrameLaws.{members_told}
use Rattle.ttp_frame.proofs.laws.members_told.Goals as goal

pub returns : goal.returns
returns c = members_told
