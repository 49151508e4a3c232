use Rattle.trace_check.proofs.Words.{◌∙◌, ap, sym, arith, message_shown, row_after}
use Rattle.trace_check.proofs.Shown.{sender-of, sender-place, number-few, shown, shown-none}
use Rattle.trace_check.proofs.nodes.message_shown.Goals as goal

pub payload-requires : goal.payload-requires
payload-requires c =
    sender-place c.args.plant.now c.args.incoming.now c.args.list.now c.args.slot c.args.node c.in-Some.delivered.now
    c.requires.node c.in-Some.ensures c.requires.past

pub overflow_add-result : goal.overflow_add-result
overflow_add-result c =
    let plant = c.args.plant.now in
    let incoming = c.args.incoming.now in
    let list = c.args.list.now in
    let d = c.in-Some.delivered.now in
    let few = number-few plant incoming list c.args.slot c.args.node d c.requires.node c.in-Some.ensures
    c.requires.past d.sender c.payload.result.now
    (sender-of plant incoming list c.args.slot c.args.node d c.requires.node c.in-Some.ensures c.requires.past)
    c.payload.ensures in omega arith

pub returns-in-Some : goal.returns-in-Some
returns-in-Some c = λ script history chosen ended.
    let plant = c.args.plant.now in
    let incoming = c.args.incoming.now in
    let list = c.args.list.now in
    let d = c.in-Some.delivered.now in
    shown plant incoming list c.args.slot c.args.node d c.requires.node c.in-Some.ensures script history chosen
    c.payload.result.now ended
    (sender-of plant incoming list c.args.slot c.args.node d c.requires.node c.in-Some.ensures c.requires.past)
    c.payload.ensures
    ∙ ap (message_shown list script (row_after list script history chosen) history c.args.node) (sym c.in-Judged.is)

pub returns-in-None : goal.returns-in-None
returns-in-None c = λ script history chosen ended.
    shown-none c.args.plant.now c.args.incoming.now c.args.list.now c.args.node script history chosen c.requires.node
    c.in-None.ensures ended
    ∙ ap (message_shown c.args.list.now script (row_after c.args.list.now script history chosen) history c.args.node)
    (sym c.in-Judged.is)
