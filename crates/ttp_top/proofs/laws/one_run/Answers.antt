use Rattle.ttp_top.proofs.Terms.{sym, ◌∙◌}
use Rattle.ttp_top.proofs.Scripts.OneRun.{numbers-same}
use Rattle.ttp_top.proofs.laws.one_run.Goals as goal

pub returns : goal.returns
returns c = λ list script numbers others none legal other.
    numbers-same list script numbers others none (legal.count ∙ sym other.count) legal.legal other.legal
