use Rattle.std.proofs.Common.{subst, sym}
use Rattle.entry_causes.proofs.MemberFacts.{entry-in}
use Rattle.run_rows.specs.declared.row.NodeRow.{NodeRow}
use Rattle.ttp_world.proofs.Places.{IsOfList}
use Rattle.ttp_world.specs.declared.medl.Medl.{Medl}
use Rattle.entry_causes.proofs.clocks.counts.Goals as goal

pub is_unread-requires : goal.is_unread-requires
is_unread-requires c =
    let run = c.args.run.now in
    subst (λ (l : Medl). IsOfList l c.row.result.now.entry) (sym c.list-list.ensures.value)
    (subst (λ (r : NodeRow). IsOfList run.list r.entry) (sym c.row.ensures)
    (entry-in run.list run.script c.args.slot c.args.node c.list-list.ensures.valid))
