use Rattle.fault_runs.proofs.Words.{ℕ, sym, subst}
use Rattle.run_costs.specs.Standing.{IsSeenAfter}
use Rattle.fault_runs.proofs.own.OwnRun.new.Goals as goal

pub returns : goal.returns
returns c =
    let before = c.in_ok-before.ensures in
    record {
      run = c.in_ok-run.ensures;
      before =
          subst (λ (n : ℕ). IsSeenAfter c.in_ok-before.before c.args.list.now c.args.script.now n)
          (sym before.count) before;
    }
