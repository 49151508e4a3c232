use Rattle.std.proofs.Common.{length}
use Rattle.check_words.proofs.nodes.+put_among.Given as goal

abbrev pub decreases-put_among : goal.decreases-put_among
decreases-put_among l = length l.numbers.now
