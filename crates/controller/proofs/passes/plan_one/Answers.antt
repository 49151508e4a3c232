use Rattle.controller.proofs.Words.{length, ap, ◌∙◌, view_intent, payload_handed}
use Rattle.controller.proofs.InSlot.{planned-node}
use Rattle.controller.proofs.Payloads.{length-payload_handed}
use Rattle.controller.proofs.passes.plan_one.Goals as goal

pub plan-requires-clause-payload : goal.plan-requires-clause-payload
plan-requires-clause-payload c =
    let view = c.args.controller.now in
    let chosen = c.args.chosen.now in
    ap length c.payload_for-payload.ensures
    ∙ ap (λ wanted. length (payload_handed wanted chosen)) c.intent.ensures
    ∙ length-payload_handed view.list view.node (view_intent view) chosen c.requires.payload

pub returns-clause-plans : goal.returns-clause-plans
returns-clause-plans c list script history k node =
    planned-node list script history k node c.args.chosen.now c.plan.ensures.same c.plan.ensures.plans
    (c.payload_for-payload.ensures ∙ ap (λ wanted. payload_handed wanted c.args.chosen.now) c.intent.ensures)
