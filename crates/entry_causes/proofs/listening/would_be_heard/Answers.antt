use Rattle.std.proofs.Common.{◌-◌, Bool, not, ◌||◌, filter, take, ap, sym, ◌∙◌, arith}
use Rattle.std.specs.List.{list_any}
use Rattle.causes.specs.Listening.{hears_nothing, would_send}
use Rattle.causes.specs.RunSlots.{RunSlot}
use Rattle.entry_causes.proofs.Listens.{any-down, any-none}
use Rattle.run_rows.specs.Rows.{past_slots, run_slot}
use Rattle.entry_causes.proofs.listening.would_be_heard.Goals as goal

pub returns-then-would_reach : goal.returns-then-would_reach
returns-then-would_reach c =
    let run = c.args.run.now in
    let p = would_send c.args.node (run_slot run c.args.left) in
    let h = λ (u : RunSlot). not (hears_nothing c.args.listener u) in
    let rest = list_any p (filter h (take (c.loop-at.at - 1 - c.args.from) (past_slots run (c.loop-at.at - 1)))) in
    sym
    (c.loop-at.invariant.is ∙ any-down p h run.list run.script c.loop-at.at c.args.from (omega arith)
    ∙ ap (λ (b : Bool). b || rest) (sym c.would_reach.ensures ∙ c.if-would_reach.true))

pub loop-at-preserved : goal.loop-at-preserved
loop-at-preserved c =
    let run = c.args.run.now in
    let p = would_send c.args.node (run_slot run c.args.left) in
    let h = λ (u : RunSlot). not (hears_nothing c.args.listener u) in
    let rest = list_any p (filter h (take (c.loop-at.at - 1 - c.args.from) (past_slots run (c.loop-at.at - 1)))) in
    record {
      is =
          c.loop-at.invariant.is ∙ any-down p h run.list run.script c.loop-at.at c.args.from (omega arith)
          ∙ ap (λ (b : Bool). b || rest) (sym c.would_reach.ensures ∙ c.if-would_reach.false);
      within = omega arith;
    }

pub returns : goal.returns
returns c =
    let run = c.args.run.now in
    let p = would_send c.args.node (run_slot run c.args.left) in
    let h = λ (u : RunSlot). not (hears_nothing c.args.listener u) in
    sym (c.loop-at.invariant.is ∙ any-none p h run.list run.script c.loop-at.at c.args.from (omega arith))
