use Rattle.hypothesis.proofs.Words.{not, ◌||◌, sym, rules, arith, length, is_ever_on, is_on, all-below}
use Rattle.hypothesis.proofs.Ranges.{one-fails}
use Rattle.hypothesis.proofs.start.are_all_on.Goals as goal

pub returns-then-not-is_on : goal.returns-then-not-is_on
returns-then-not-is_on c =
    sym (one-fails (λ k. not (is_ever_on c.args.script.now k) || is_on c.args.script.now k c.args.slot)
    (length c.args.list.now.slots) c.loop-node.node (omega arith) (search rules))

pub returns : goal.returns
returns c =
    sym (all-below (λ k. not (is_ever_on c.args.script.now k) || is_on c.args.script.now k c.args.slot)
    (length c.args.list.now.slots) (λ k less. c.loop-node.invariant k (omega arith)))
