use Rattle.fault_runs.proofs.Words.{◌≡◌, ◌++◌, List, ℕ, subst, OnOk, summary, own_line}
use Rattle.fault_runs.proofs.tally.Tally.form_own.Goals as goal

pub returns-clause-line : goal.returns-clause-line
returns-clause-line c =
    let list = c.args.list.now in
    let script = c.args.script.now in
    subst (λ (old : List ℕ). OnOk c.put_own.result (c.put_own.new.text ≡ old ++ own_line list (summary list script)))
    c.clear.ensures (c.put_own.ensures (summary list script).cost c.requires.words)
