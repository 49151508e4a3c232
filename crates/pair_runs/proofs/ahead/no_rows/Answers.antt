use Rattle.std.proofs.Common.{arith}
use Rattle.pair_runs.proofs.ahead.no_rows.Goals as goal

pub returns : goal.returns
returns c = λ list script. record { count = omega (arith, c.loop.invariant.0); each = c.loop.invariant.1 list script }
