use Rattle.picture_text.proofs.Words.{length}
use Rattle.picture_text.proofs.members_cell.+put_count.Given as goal

-- the nodes that are left
abbrev pub decreases-put_count : goal.decreases-put_count
decreases-put_count l = length l.nodes.now
