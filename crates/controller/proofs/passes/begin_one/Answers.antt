use Rattle.controller.proofs.Words.{sym, ◌∙◌, ap, is_on, is_armed, jump_of}
use Rattle.controller.proofs.InSlot.{begun-node}
use Rattle.controller.proofs.Near.{jump_same, begun-controller}
use Rattle.controller.proofs.Payloads.{payload-begun}
use Rattle.controller.proofs.passes.begin_one.Goals as goal

pub returns-clause-controller : goal.returns-clause-controller
returns-clause-controller c =
    let begun = c.begin.ensures in
    rw c.keep_look_up.ensures
    (begun-controller c.args.slot c.requires.controller
    c.incidents_after-seat.ensures.bounds begun.same begun.clock begun.turn)

pub returns-clause-begins : goal.returns-clause-begins
returns-clause-begins c history long stands =
    let script = c.args.script.now in
    let k = c.args.k in
    let happens = c.incidents_after-seat.ensures in
    rw c.keep_look_up.ensures
    (begun-node c.args.list.now script history k c.requires.node (c.is_on.ensures ∙ ap (is_on script k) (sym long))
    (ap (λ w. w.armed) happens.value ∙ ap (is_armed script k) (sym long))
    (jump_same happens.bounds ∙ ap (λ w. w.jump) happens.value ∙ ap (jump_of script k) (sym long))
    c.requires.controller.list c.requires.controller.node c.begin.ensures.same c.begin.ensures.begins stands)

pub returns-clause-payload : goal.returns-clause-payload
returns-clause-payload c chosen before =
    let armed = ap (λ w. w.armed) c.incidents_after-seat.ensures.value in
    rw c.keep_look_up.ensures
    (payload-begun c.args.script.now c.args.slot c.args.k chosen c.begin.ensures.same
    (rw (c.is_on.ensures, armed) at c.begin.ensures.sends) before)
