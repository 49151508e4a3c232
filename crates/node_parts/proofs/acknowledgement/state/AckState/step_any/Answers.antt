use Rattle.node_parts.specs.Moves.{taken_verdict}
use Rattle.node_parts.proofs.MoveLaws.{IsMoveOf-move_of}
use Rattle.node_parts.proofs.acknowledgement.state.AckState.step_any.Goals as goal

pub returns-clause-means : goal.returns-clause-means
returns-clause-means c =
    rw (c.move_of-asked.ensures, c.taken_verdict-verdict.ensures, c.self.view_is)
    (IsMoveOf-move_of c.args.self.now (taken_verdict c.args.self.now c.args.verdict) c.args.sender)
