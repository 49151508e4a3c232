use Rattle.std.proofs.Common.{◌≡◌, ◌++◌, List, ℕ, subst}
use Rattle.std.specs.Prelude.{OnOk}
use Rattle.fault_pairs.specs.PairText.{pair_counts_line}
use Rattle.pair_runs.proofs.put.put_counts_line.Goals as goal

pub returns-clause-ok : goal.returns-clause-ok
returns-clause-ok g c =
    let line = pair_counts_line c.args.name.now c.args.counts.now in
    c.put_formed.ensures.ok line
    (subst (λ (old : List ℕ). OnOk c.put_sum-formed.result (c.put_sum-formed.new.text ≡ old ++ line)) c.clear.ensures
    c.put_sum-formed.ensures)

pub returns-clause-err : goal.returns-clause-err
returns-clause-err g c =
    let line = pair_counts_line c.args.name.now c.args.counts.now in
    c.put_formed.ensures.err line
    (subst (λ (old : List ℕ). OnOk c.put_sum-formed.result (c.put_sum-formed.new.text ≡ old ++ line)) c.clear.ensures
    c.put_sum-formed.ensures)
