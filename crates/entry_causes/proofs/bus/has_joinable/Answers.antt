use Rattle.std.proofs.Common.{◌≡◌, ◌<◌, ℕ, length, ap, sym, ◌∙◌, arith}
use Rattle.std.specs.List.{list_any}
use Rattle.entry_causes.proofs.Joinables.{any-below, any-next, has_joinable-slot_in}
use Rattle.entry_causes.specs.Hearing.{sends_joinable}
use Rattle.run_rows.specs.Rows.{run_slot}
use Rattle.ttp_base.specs.NodeSet.{below}
use Rattle.entry_causes.proofs.bus.has_joinable.Goals as goal

pub loop-node-preserved : goal.loop-node-preserved
loop-node-preserved c =
    any-next (sends_joinable (run_slot c.args.run.now c.args.slot)) c.loop-node.node c.loop-node.invariant
    (sym c.sends_joinable.ensures ∙ c.if-sends_joinable.false)

pub returns-then-sends_joinable : goal.returns-then-sends_joinable
returns-then-sends_joinable c =
    let run = c.args.run.now in
    let less : c.loop-node.node < length run.list.slots =
    omega (arith, c.loop-node-test.true, c.nodes-node-end.ensures) in
    sym (any-below (sends_joinable (run_slot run c.args.slot)) (length run.list.slots) c.loop-node.node less
    (sym c.sends_joinable.ensures ∙ c.if-sends_joinable.true))
    ∙ has_joinable-slot_in run.list run.script c.args.slot

pub returns : goal.returns
returns c =
    let run = c.args.run.now in
    let all : c.loop-node.node ≡ length run.list.slots =
    omega (arith, c.loop-node-test.false, c.loop-node.auto.node-end, c.nodes-node-end.ensures) in
    sym (sym (ap (λ (n : ℕ). list_any (sends_joinable (run_slot run c.args.slot)) (below n)) all)
    ∙ c.loop-node.invariant)
    ∙ has_joinable-slot_in run.list run.script c.args.slot
