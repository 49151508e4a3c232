use Rattle.controller.proofs.Words.{ap, rules, or-false}
use Rattle.node_parts.specs.Moves.{IsMoveOf}
use Rattle.controller.proofs.Stints.{moved_members-after}
use Rattle.controller.proofs.node.Node.judge.Goals as goal

pub returns : goal.returns
returns c =
    let a = c.args in
    let list = a.list.now in
    let past = a.self.now in
    let judged = c.requires.judged in
    let moves : IsMoveOf c.step-asked.result past.ack a.verdict a.sender =
    rw (ap (λ p. p.ack) c.self.view_is, judged.possible) at c.step-asked.ensures.means in
    search (
      rules,
      or-false,
      moves.accepts,
      moves.rejects,
      judged.possible,
      judged.coming,
      moved_members-after list a.k past a.sender a.verdict a.deviation c.step-asked.result c.requires.valid
          c.requires.node c.requires.within judged moves,
    )
