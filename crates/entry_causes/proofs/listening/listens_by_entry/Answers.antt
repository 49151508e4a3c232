use Rattle.std.proofs.Common.{ap, sym, ◌∙◌, arith}
use Rattle.entry_causes.proofs.Listens.{named-down, named-none}
use Rattle.entry_causes.specs.Told.{is_named}
use Rattle.run_rows.specs.declared.row.NodeRow.{NodeRow}
use Rattle.entry_causes.proofs.listening.listens_by_entry.Goals as goal

pub returns-then-from-eq0 : goal.returns-then-from-eq0
returns-then-from-eq0 c =
    let run = c.args.run.now in
    sym
    (named-none run.list run.script c.args.before c.listening_from-from.result c.args.node
    c.listening_from-from.ensures.is c.if-from-eq0.true)

pub returns : goal.returns
returns c =
    let run = c.args.run.now in
    c.is_named.ensures ∙ ap (λ (r : NodeRow). is_named r.entry) c.row.ensures
    ∙ sym
    (named-down run.list run.script c.args.before c.listening_from-from.result c.args.node
    c.listening_from-from.ensures.is (omega (arith, c.if-from-eq0.false)))
