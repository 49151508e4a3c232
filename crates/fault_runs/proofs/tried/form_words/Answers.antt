use Rattle.fault_runs.proofs.Words.{◌≡◌, ◌++◌, List, ℕ, subst, OnOk, cost_words}
use Rattle.fault_runs.proofs.tried.form_words.Goals as goal

pub returns : goal.returns
returns c =
    subst
    (λ (old : List ℕ). OnOk c.put_cost.result (c.put_cost.new.text ≡ old ++ cost_words c.args.list.now c.args.cost.now))
    c.clear.ensures c.put_cost.ensures
