use Rattle.std.proofs.Common.{length}
use Rattle.check_words.proofs.nearest.+nearest_from.Given as goal

abbrev pub decreases-nearest_from : goal.decreases-nearest_from
decreases-nearest_from l = length l.names.now
