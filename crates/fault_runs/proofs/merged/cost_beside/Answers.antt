use Rattle.fault_runs.proofs.Words.{ℕ, sym, subst}
use Rattle.run_costs.specs.Standing.{IsSeenAfter}
use Rattle.fault_runs.proofs.merged.cost_beside.Goals as goal

pub cost_from-requires-clause-past : goal.cost_from-requires-clause-past
cost_from-requires-clause-past c =
    let past = c.requires.own.before in
    subst (λ (n : ℕ). IsSeenAfter c.args.past.now c.args.common.now.list.now
    c.args.common.now.script.now n) (sym past.count) past
