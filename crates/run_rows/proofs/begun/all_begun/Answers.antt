use Rattle.std.proofs.Common.{ℕ, ◌<◌, ◌≤◌, length, ap, subst, sym, ◌∙◌, get_or, unsigned_abs, arith}
use Rattle.std.proofs.lemmas.List.{get_or_default}
use Rattle.ttp_world.specs.ZerosWorld.{zeros_world}
use Rattle.controller.specs.PlantWithin.{most_ahead}
use Rattle.ttp_world.proofs.ZerosWorlds.{length-zeros_world}
use Rattle.run_costs.specs.States.{off_state}
use Rattle.run_rows.proofs.Filled.{begun-more, kept-at, state-shown}
use Rattle.run_rows.proofs.Near.{run-near}
use Rattle.run_rows.specs.Begun.{begun_shown}
use Rattle.ttp_world.proofs.Lists.{nodes-most}
use Rattle.ttp_world.specs.World.{begun_node, node_past}
use Rattle.ttp_world.specs.declared.node.NodeState.{NodeState}
use Rattle.run_rows.proofs.begun.all_begun.Goals as goal

pub begun_by-requires-clause-near : goal.begun_by-requires-clause-near
begun_by-requires-clause-near c =
    let list = c.args.list.now in
    let script = c.args.script.now in
    let node = c.loop-node.node in
    let less : node < length list.slots = omega (arith, c.loop-node-test.true, c.nodes-node-end.ensures) in
    let states = c.states-states.result.now in
    let shown = c.states-states.ensures script c.args.slot c.requires.run c.requires.later in
    let d = c.index-states-at.result in
    subst (λ (s : NodeState). unsigned_abs s.offset ≤ most_ahead c.args.slot)
    (sym (c.index-states-at.is
    ∙ ap (λ (m : ℕ). get_or states m d) c.from-at.ensures
    ∙ get_or_default states node d off_state (omega (arith, shown.count, less))))
    (run-near list script c.args.slot node c.args.run.now states c.requires.run shown less)

pub loop-node-preserved : goal.loop-node-preserved
loop-node-preserved c =
    let list = c.args.list.now in
    let script = c.args.script.now in
    let node = c.loop-node.node in
    let few = nodes-most list c.requires.list in
    let less : node < length list.slots = omega (arith, c.loop-node-test.true, c.nodes-node-end.ensures) in
    let past = node_past list script (zeros_world list script c.args.slot) node in
    let shown = c.states-states.ensures script c.args.slot c.requires.run c.requires.later in
    let state =
    state-shown list script c.args.slot c.from-at.result node c.states-states.result.now c.index-states-at.result shown
    c.from-at.ensures less in
    let kept =
    kept-at list script c.args.slot (length list.slots) c.from-at.result node c.args.kept.now c.index-kept-at.result
    c.requires.kept few c.from-at.ensures less in
    begun-more list script c.args.slot node c.from-at.result c.loop-node.begun c.begun_by.result c.from-at.ensures
    (omega (arith, less, few)) c.loop-node.invariant
    (c.begun_by.ensures.value past (c.index-states-at.is ∙ state) kept
    ∙ ap (λ (n : ℕ). begun_shown list (begun_node list script n past node))
    (sym (length-zeros_world list script c.args.slot)))
    c.begun_by.ensures.near
