use Rattle.std.proofs.Common.{length}
use Rattle.check_words.proofs.nearest.+put_chosen.Given as goal

abbrev pub decreases-put_chosen : goal.decreases-put_chosen
decreases-put_chosen l = length l.names.now
