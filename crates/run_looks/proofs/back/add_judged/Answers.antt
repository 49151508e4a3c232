use Rattle.std.proofs.Common.{List, ap, subst, sym, ◌∙◌}
use Rattle.causes.specs.RunSlots.{is_judged_so}
use Rattle.causes.specs.Sources.{only_entries}
use Rattle.causes.specs.declared.cause.Spot.{Spot}
use Rattle.run_looks.proofs.StepsBack.{judged_in-true}
use Rattle.run_looks.specs.Added.{AddsSources}
use Rattle.run_looks.specs.Back.{is_among_verdicts}
use Rattle.run_rows.specs.declared.row.NodeRow.{NodeRow}
use Rattle.run_looks.proofs.back.add_judged.Goals as goal

pub returns-in_ok-add_entry : goal.returns-in_ok-add_entry
returns-in_ok-add_entry c =
    let run = c.args.run.now in
    let p = is_among_verdicts c.args.verdicts in
    subst (λ (spots : List Spot). AddsSources c.args.out.now c.add_entry.new.self (only_entries spots))
    (judged_in-true p c.args.node run.list run.script c.args.slot
    (ap (λ (r : NodeRow). is_judged_so p r.entry) (sym c.row.ensures)
    ∙ sym c.is_judged_so.ensures ∙ c.if-is_judged_so.true))
    c.in_ok-add_entry.ensures
