use Rattle.std.proofs.Common.{◌≡◌, IfOk, subst, arith}
use Rattle.causes.specs.OwnSlots as own
use Rattle.causes.specs.Sources.{only_entries}
use Rattle.entry_causes.proofs.SharedFacts.{shared-told}
use Rattle.run_looks.specs.Added.{AddsSources}
use Rattle.entry_causes.proofs.own.add_shared.Goals as goal

pub returns : goal.returns
returns c =
    let run = c.args.run.now in
    subst (λ (shared : own.Shared).
    IfOk c.add_lacked.result (λ lacked. (lacked ≡ shared.lacked)
    × AddsSources c.args.out.now c.add_lacked.new.out (only_entries shared.entries)))
    (shared-told run.list run.script c.args.before c.args.slot c.args.node
    c.place_slot-peer.result c.in_ok-lacked.lacked
    c.with_rejected_peers-told.result c.members_sent-sent.result
    c.add_lacked.ensures.few (omega (arith, c.requires.slot))
    c.place_slot-peer.ensures.value c.members_sent-sent.ensures
    c.in_ok-lacked.ensures c.with_rejected_peers-told.ensures)
    c.add_lacked.ensures.told
