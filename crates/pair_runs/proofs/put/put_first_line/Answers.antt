use Rattle.std.proofs.Common.{◌≡◌, ◌++◌, List, ℕ, ap, subst, ◌∙◌}
use Rattle.std.specs.Prelude.{OnOk}
use Rattle.campaign.specs.declared.cost.Cost.{Cost}
use Rattle.campaign.specs.Lines.{summary}
use Rattle.fault_runs.specs.Told.{told_summary}
use Rattle.pair_runs.proofs.FromBelow.{cost-ordered}
use Rattle.fault_pairs.specs.PairText.{first_fault_line}
use Rattle.pair_runs.proofs.put.put_first_line.Goals as goal

pub put_first-formed-requires-clause-hurt : goal.put_first-formed-requires-clause-hurt
put_first-formed-requires-clause-hurt g c =
    cost-ordered c.args.list.now c.args.more.now c.args.cost.now c.requires.valid c.requires.cost

pub returns-clause-ok : goal.returns-clause-ok
returns-clause-ok g c = λ first is.
    let list = c.args.list.now in
    let line = λ (cost : Cost).
    first_fault_line list first (told_summary list c.args.more.now cost) c.args.counts.now in
    c.put_formed.ensures.ok (line (summary list c.args.more.now).cost)
    (subst (λ (w : List ℕ). OnOk c.put_first-formed.result (c.put_first-formed.new.text ≡ w))
    (ap (λ (old : List ℕ). old ++ line c.args.cost.now) c.clear.ensures ∙ ap line c.requires.cost)
    (c.put_first-formed.ensures first is))

pub returns-clause-err : goal.returns-clause-err
returns-clause-err g c = λ first is.
    let list = c.args.list.now in
    let line = λ (cost : Cost).
    first_fault_line list first (told_summary list c.args.more.now cost) c.args.counts.now in
    c.put_formed.ensures.err (line (summary list c.args.more.now).cost)
    (subst (λ (w : List ℕ). OnOk c.put_first-formed.result (c.put_first-formed.new.text ≡ w))
    (ap (λ (old : List ℕ). old ++ line c.args.cost.now) c.clear.ensures ∙ ap line c.requires.cost)
    (c.put_first-formed.ensures first is))
