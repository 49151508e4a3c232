use Rattle.theorems.proofs.TraceLength.{trace-short}
use Rattle.theorems.proofs.trace_size.laws.within_limit.Goals as goal

pub returns : goal.returns
returns c = λ list script numbers valid script_valid legal.
    trace-short list script numbers valid script_valid legal.count legal.legal
