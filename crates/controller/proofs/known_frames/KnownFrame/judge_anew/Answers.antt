use Rattle.controller.proofs.Words.{◌≡◌, found_by}
use Rattle.controller.proofs.KnownFrames.{judged-found}
use Rattle.controller.proofs.known_frames.KnownFrame.judge_anew.Goals.{After-judge-found}
use Rattle.controller.proofs.known_frames.KnownFrame.judge_anew.Goals as goal

found : (c : After-judge-found) → c.judge-found.result
    ≡ found_by c.self.inside.given.value c.self.inside.bytes.now c.args.cstate
found c =
    rw (rw (← c.self.view_is) at c.requires.list)
    (judged-found c.self.inside.bytes.now c.args.cstate c.form_of.ensures c.requires.at c.judge-found.ensures.answer)

pub invariant_of-self : goal.invariant_of-self
invariant_of-self c judged = found (goal.at.invariant_of-self c).After-judge-found

pub returns-clause-answer : goal.returns-clause-answer
returns-clause-answer c = rw (← c.self.view_is) (found (goal.at.returns-clause-answer c).After-judge-found)
