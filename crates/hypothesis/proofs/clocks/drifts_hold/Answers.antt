use Rattle.hypothesis.proofs.Words.{sym, rules, arith, length, is_within_bound, drift_of, all-below}
use Rattle.hypothesis.proofs.Ranges.{one-fails}
use Rattle.hypothesis.proofs.clocks.drifts_hold.Goals as goal

pub returns-then-not-is_within_bound : goal.returns-then-not-is_within_bound
returns-then-not-is_within_bound c =
    sym (one-fails (λ k. is_within_bound c.args.list.now.drift (drift_of c.args.script.now k))
    (length c.args.list.now.slots) c.loop-node.node (omega arith) (search rules))

pub returns : goal.returns
returns c =
    sym (all-below (λ k. is_within_bound c.args.list.now.drift (drift_of c.args.script.now k))
    (length c.args.list.now.slots) (λ k less. c.loop-node.invariant k (omega arith)))
