use Rattle.controller.proofs.Words.{arith}
use Rattle.controller.proofs.Parts.{ArePassed-more, ArePassed-coming, each-new}
use Rattle.controller.proofs.passes.take_all.Goals as goal

pub take_one-requires-clause-controller : goal.take_one-requires-clause-controller
take_one-requires-clause-controller c =
    c.requires.seats.each c.loop-j.j _
    (ArePassed-coming c.loop-j.invariant.0 c.index-seats-j.result (omega arith))

pub take_one-requires-clause-incidents : goal.take_one-requires-clause-incidents
take_one-requires-clause-incidents c =
    c.requires.incidents.each c.loop-j.j _
    (ArePassed-coming c.loop-j.invariant.0 c.index-seats-j.result (omega arith))

pub loop-j-preserved : goal.loop-j-preserved
loop-j-preserved c = (
  ArePassed-more c.loop-j.invariant.0 c.index-seats-j.result (omega arith)
      (c.take_one.ensures.controller, c.take_one.ensures.ends),
  rw c.take_one.ensures.keeps c.loop-j.invariant.1,
)

pub returns-clause-seats : goal.returns-clause-seats
returns-clause-seats c = each-new c.loop-j.invariant.0 (omega arith) c.requires.seats (λ j x y of _. of.0)

pub returns-clause-end : goal.returns-clause-end
returns-clause-end c history chosen planned carries = record {
  stand = each-new c.loop-j.invariant.0 (omega arith) planned (λ j x y of was. (of.1 history chosen was carries).0);
  left = each-new c.loop-j.invariant.0 (omega arith) planned (λ j x y of was. (of.1 history chosen was carries).1);
}
