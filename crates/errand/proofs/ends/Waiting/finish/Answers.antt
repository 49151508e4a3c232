use Rattle.std.proofs.Common.{◌≡◌, ◌∙◌}
use Rattle.errand.proofs.ends.Waiting.finish.Goals as goal

pub returns-in-Ok : goal.returns-in-Ok
returns-in-Ok g c = λ j was.
    let same : j ≡ c.in-Ok.job = cc (c.in-Ok.ensures.back.0) in
    rw same (c.requires.does c.in-Ok.job c.work.result c.in-Ok.ensures.back.1 c.work.ensures)

pub returns-in-Err : goal.returns-in-Err
returns-in-Err g c = λ j was. c.take.ensures j (c.in-Err.ensures.begun ∙ was)
