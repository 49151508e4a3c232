use Rattle.script_gen.proofs.Words.{rules, arith}
use Rattle.script_gen.proofs.Starter.{starter-at, starter-nowhere}
use Rattle.script_gen.proofs.faults.starter_of.Goals as goal

pub returns-then-get : goal.returns-then-get
returns-then-get c =
    starter-at c.args.list.now c.loop-node.node (omega arith) c.loop-node.invariant (search rules)

pub returns : goal.returns
returns c = starter-nowhere c.args.list.now (λ j less. c.loop-node.invariant j (omega arith))
