use Rattle.fault_runs.proofs.Words.{sym, ◌∙◌}
use Rattle.fault_runs.proofs.merged.is_same_deed.Goals as goal

pub returns : goal.returns
returns c = λ is. record { same = c.is_same.ensures is; busy = sym c.is_waiting.ensures ∙ c.if-is_waiting.false }
