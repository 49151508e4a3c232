use Rattle.std.proofs.Common.{ap, length, sym, ◌∙◌}
use Rattle.causes.specs.Judged.{came_as_sent}
use Rattle.causes.specs.Said.{frame_to_join}
use Rattle.entry_causes.proofs.Signals.{heard-below}
use Rattle.entry_causes.proofs.FromBelow.{slot_in-list}
use Rattle.run_rows.specs.Rows.{run_slot}
use Rattle.entry_causes.proofs.bus.frame_on.Goals as goal

pub returns-clause-value : goal.returns-clause-value
returns-clause-value c =
    let run = c.args.run.now in
    let s = run_slot run c.args.slot in
    let lists = c.list.ensures.value ∙ sym (slot_in-list run.list run.script c.args.slot) in
    c.frame_to_join.ensures.value s
    (c.heard_in-heard.ensures.as_sent ∙ ap (came_as_sent s) (sym c.heard_in-heard.ensures.signal))
    ∙ (λ i. frame_to_join (lists i) s (c.heard_in-heard.ensures.signal i))

pub returns-clause-sender : goal.returns-clause-sender
returns-clause-sender c =
    let run = c.args.run.now in
    c.frame_to_join.ensures.sender (length run.list.slots)
    (heard-below run.list (run_slot run c.args.slot) c.heard_in-heard.result c.heard_in-heard.ensures.sender)
