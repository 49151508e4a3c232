use Rattle.picture_text.proofs.Words.{length}
use Rattle.picture_text.proofs.members.+most_held.Given as goal

-- the memberships that are left
abbrev pub decreases-most_held : goal.decreases-most_held
decreases-most_held l = length l.words.now
