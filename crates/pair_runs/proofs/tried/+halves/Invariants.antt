use Rattle.std.proofs.Common.{◌+◌, ◌*◌}
use Rattle.pair_runs.proofs.tried.+halves.Given as goal

abbrev pub decreases-try_beside : goal.decreases-try_beside
decreases-try_beside g l = 2 * l.threads + 1

abbrev pub decreases-try_front : goal.decreases-try_front
decreases-try_front g l = 2 * l.half + 2

abbrev pub decreases-try_back : goal.decreases-try_back
decreases-try_back g l = 2 * l.half + 2
