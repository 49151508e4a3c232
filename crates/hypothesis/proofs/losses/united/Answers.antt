use Rattle.hypothesis.proofs.Words.{List, ℕ, ◌+◌, subst, sym, ◌∙◌, rules}
use Rattle.hypothesis.proofs.Unions.{AreUnited, united-with, united-without}
use Rattle.hypothesis.proofs.losses.united.Goals as goal
use Rattle.hypothesis.proofs.losses.united.Goals.{then-has, else-has}

pub loop-node-preserved : goal.loop-node-preserved
loop-node-preserved c =
    let United : List ℕ → Type 0 = λ all. AreUnited all c.args.first c.args.second (c.loop-node.node + 1) in
    elim c.if-has.branch [
      | then-has w ↦
          subst United (sym (w.all-is ∙ w.with-all.ensures))
          (united-with c.loop-node.all c.args.first c.args.second c.loop-node.node c.loop-node.invariant (search rules))
      | else-has w ↦
          subst United (sym w.all-is) (united-without c.loop-node.all c.args.first c.args.second c.loop-node.node
          c.loop-node.invariant (search rules))
    ]
