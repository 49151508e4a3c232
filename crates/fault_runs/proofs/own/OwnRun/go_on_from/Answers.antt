use Rattle.fault_runs.proofs.Words.{ℕ, sym, subst}
use Rattle.run_costs.specs.Standing.{IsSeenAfter}
use Rattle.fault_runs.proofs.own.OwnRun.go_on_from.Goals as goal

pub returns : goal.returns
returns c = λ script is later past.
    let before = c.go_on_from-2.ensures script is later past in
    record {
      run = c.go_on_from.ensures script is later past;
      before =
          subst (λ (n : ℕ). IsSeenAfter c.go_on_from-2.new.self c.args.list.now c.args.more.now n)
          (sym before.count) before;
    }
