use Rattle.controller.proofs.Words.{◌≡◌, length, arith, nothing_chosen, get_or_read}
use Rattle.controller.proofs.InSlot.{AreSent-none, AreSent-more, AreSent-slot, AreSent-near}
use Rattle.controller.proofs.Near.{planned-controller}
use Rattle.controller.proofs.Parts.{ArePassed-coming, each-of, all-new}
use Rattle.controller.proofs.passes.plan_all.Goals as goal

pub loop-k-init : goal.loop-k-init
loop-k-init c = AreSent-none c.begin.ensures

pub send_one-requires-clause-controller : goal.send_one-requires-clause-controller
send_one-requires-clause-controller c =
    rw (AreSent-slot c.loop-k.invariant) (each-of c.requires.seats c.loop-k.k
    (ArePassed-coming c.loop-k.invariant.passed c.index-seats-k.result (omega arith)))

pub send_one-requires-clause-payload : goal.send_one-requires-clause-payload
send_one-requires-clause-payload c =
    rw (get_or_read c.args.chosen.now c.loop-k.k c.index-chosen-k.result
    (omega (arith, c.requires.count, c.requires.nodes)) c.index-chosen-k.is nothing_chosen)
    (each-of c.requires.chosen c.loop-k.k
    (ArePassed-coming c.loop-k.invariant.passed c.index-seats-k.result (omega arith)))

pub send_one-requires-clause-incidents : goal.send_one-requires-clause-incidents
send_one-requires-clause-incidents c =
    rw (AreSent-slot c.loop-k.invariant) (each-of c.requires.incidents c.loop-k.k
    (ArePassed-coming c.loop-k.invariant.passed c.index-seats-k.result (omega arith)))

pub loop-k-preserved : goal.loop-k-preserved
loop-k-preserved c =
    AreSent-more c.index-seats-k.result _ c.loop-k.invariant (omega arith)
    (rw (get_or_read c.args.chosen.now c.loop-k.k c.index-chosen-k.result
    (omega (arith, c.requires.count, c.requires.nodes)) c.index-chosen-k.is nothing_chosen) at c.send_one.ensures)

pub returns-clause-seats : goal.returns-clause-seats
returns-clause-seats c =
    all-new c.loop-k.invariant.passed (omega arith) c.requires.seats (λ k x y by was. planned-controller by.0 was)

pub returns-clause-incidents : goal.returns-clause-incidents
returns-clause-incidents c =
    all-new c.loop-k.invariant.passed (omega arith) c.requires.incidents (λ k x y by was. rw by.2 was)

pub returns-clause-medium : goal.returns-clause-medium
returns-clause-medium c = AreSent-near c.loop-k.invariant c.requires.seats

pub returns-clause-plan : goal.returns-clause-plan
returns-clause-plan c history begun =
    all-new c.loop-k.invariant.passed (omega arith) begun (λ k x y by was. by.1 history was)

pub returns-clause-carries : goal.returns-clause-carries
returns-clause-carries c history long begun =
    let all : c.loop-k.k ≡ length c.args.list.now.slots = omega (arith, c.requires.nodes) in
    rw all at (c.loop-k.invariant.carries history long begun)
