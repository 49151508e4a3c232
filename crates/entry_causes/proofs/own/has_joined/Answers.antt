use Rattle.std.proofs.Common.{ap, sym, ◌∙◌, arith}
use Rattle.causes.specs.RunSlots.{is_joined}
use Rattle.entry_causes.proofs.OwnFacts.{newest_entry-down, newest_entry-none}
use Rattle.run_rows.specs.declared.row.NodeRow.{NodeRow}
use Rattle.entry_causes.proofs.own.has_joined.Goals as goal

pub returns-then-slots-eq0 : goal.returns-then-slots-eq0
returns-then-slots-eq0 c =
    let run = c.args.run.now in
    sym (ap is_joined (newest_entry-none run.list run.script c.args.slots c.args.node c.if-slots-eq0.true))

pub returns : goal.returns
returns c =
    let run = c.args.run.now in
    c.is_joined.ensures ∙ ap (λ (r : NodeRow). is_joined r.entry) c.row.ensures
    ∙ sym
    (ap is_joined
    (newest_entry-down run.list run.script c.args.slots c.args.node (omega (arith, c.if-slots-eq0.false))))
