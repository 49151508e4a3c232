use Rattle.controller.proofs.Words.{◌+◌, arith, chosen_of}
use Rattle.controller.proofs.Parts.{ArePassed-more, ArePassed-coming, each-new}
use Rattle.controller.proofs.passes.begin_all.Goals as goal

pub begin_one-requires-clause-controller : goal.begin_one-requires-clause-controller
begin_one-requires-clause-controller c =
    c.requires.seats.each c.loop-j.j _
    (ArePassed-coming c.loop-j.invariant c.index-seats-j.result (omega arith))

pub loop-j-preserved : goal.loop-j-preserved
loop-j-preserved c =
    ArePassed-more c.loop-j.invariant c.index-seats-j.result (omega arith) (
      c.begin_one.ensures.incidents,
      c.begin_one.ensures.controller,
      c.begin_one.ensures.begins,
      c.begin_one.ensures.payload,
    )

pub returns-clause-incidents : goal.returns-clause-incidents
returns-clause-incidents c = each-new c.loop-j.invariant (omega arith) c.requires.seats (λ j x y of _. of.0)

pub returns-clause-seats : goal.returns-clause-seats
returns-clause-seats c = each-new c.loop-j.invariant (omega arith) c.requires.seats (λ j x y of _. of.1)

pub returns-clause-begin : goal.returns-clause-begin
returns-clause-begin c history long stand =
    each-new c.loop-j.invariant (omega arith) stand (λ j x y of stands. of.2 history long stands)

pub returns-clause-payloads : goal.returns-clause-payloads
returns-clause-payloads c chosen before =
    each-new c.loop-j.invariant (omega arith) before
    (λ j x y of was. of.3 (chosen_of chosen (c.args.first + j)) was)
