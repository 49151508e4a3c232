use Rattle.trace_check.proofs.Words.{◌≡◌, ◌∙◌, length, sym, subst, arith, Departs, node_lines}
use Rattle.trace_check.proofs.Ended.{ended-digits}
use Rattle.trace_check.proofs.Labels.{passed_up}
use Rattle.trace_check.proofs.Shown.{HasNodesSoFar, nodes-departs, nodes-next}
use Rattle.trace_check.proofs.nodes.follow_nodes.Goals as goal

pub behind_node_line-behind-requires : goal.behind_node_line-behind-requires
behind_node_line-behind-requires c =
    let past = c.requires.past in
    ended-digits c.args.plant.now c.args.incoming.now c.args.list.now past.script past.history past.chosen past.ended
    c.loop-node.node c.node-state.result c.requires.list c.node-state.ensures.shows

pub returns-in_err-rest-clause-wrong : goal.returns-in_err-rest-clause-wrong
returns-in_err-rest-clause-wrong c = λ script history chosen ended.
    passed_up c.from_residual.result c.in_err-rest.field-0.0 _ c.from_residual.ensures.1
    (subst (Departs c.args.text.now (node_lines c.args.list.now script history chosen))
    (sym c.in_err-rest.ensures.wrong)
    (nodes-departs c.args.plant.now c.args.incoming.now c.args.list.now c.args.slot c.loop-node.lines c.args.text.now
    c.loop-node.rest.now c.loop-node.node c.loop-node.invariant c.requires.past c.node-state.result
    c.node-state.ensures.shows c.message_shown-message.result c.message_shown-message.ensures script history chosen
    (omega arith) ended (sym c.behind_node_line-behind.ensures.rest ∙ c.in_err-rest.ensures.none)))

pub loop-node-preserved : goal.loop-node-preserved
loop-node-preserved c =
    nodes-next c.args.plant.now c.args.incoming.now c.args.list.now c.args.slot c.loop-node.lines c.args.text.now
    c.loop-node.rest.now c.loop-node.node c.loop-node.invariant c.requires.past c.node-state.result
    c.node-state.ensures.shows c.message_shown-message.result c.message_shown-message.ensures c.in_ok-rest.rest.now
    c.behind_node_line-behind.new.lines c.behind_node_line-behind.ensures.slot
    (sym c.behind_node_line-behind.ensures.rest ∙ c.in_ok-rest.ensures.ok)

pub returns-clause-ok : goal.returns-clause-ok
returns-clause-ok c = λ script history chosen ended.
    let n : c.loop-node.node ≡ length c.args.list.now.slots = omega arith in
    (subst (HasNodesSoFar c.args.plant.now c.args.incoming.now c.args.list.now c.args.slot c.loop-node.lines
    c.args.text.now c.loop-node.rest.now) n c.loop-node.invariant).begins script history chosen ended
