use Rattle.controller.proofs.Words.{ap, ◌∙◌, found_by}
use Rattle.controller.proofs.KnownFrames.{same_found}
use Rattle.controller.proofs.known_frames.KnownFrame.judge.Goals as goal

pub returns-then-is_known-clause-answer : goal.returns-then-is_known-clause-answer
returns-then-is_known-clause-answer c =
    let n = c.self.inside in
    let known = c.is_known.ensures c.if-is_known.true in
    rw (← c.self.view_is)
    (c.self.invariant known.0 ∙ same_found n.given.value n.bytes.now n.cstate c.cstate-expected.result known.1
    ∙ ap (found_by n.given.value n.bytes.now) c.cstate-expected.ensures)
