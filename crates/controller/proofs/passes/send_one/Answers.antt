use Rattle.controller.proofs.Words.{refl, sym, ◌∙◌, payload_handed}
use Rattle.controller.proofs.InSlot.{planned-node, sends-nothing}
use Rattle.controller.proofs.passes.send_one.Goals as goal

pub returns-in-Quiet : goal.returns-in-Quiet
returns-in-Quiet c =
    let chosen = c.args.chosen.now in
    let of = c.plan_nothing.ensures in
    sends-nothing c.args.seat.now _ (record { same = of.same; clock = of.clock; turn = of.turn }) refl (λ history begun.
    planned-node c.args.list.now c.args.script.now history c.args.k c.requires.node chosen of.same
    (of.plans chosen.number) (λ i. payload_handed ((sym c.in-Quiet.is ∙ c.intent.ensures) i) chosen) begun)
