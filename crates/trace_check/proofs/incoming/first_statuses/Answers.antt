use Rattle.trace_check.proofs.Words.{◌++◌, ◌∷◌, [], ◌∙◌, replicate, replicate_more}
use Rattle.trace_check.proofs.incoming.first_statuses.Goals as goal

pub loop-preserved : goal.loop-preserved
loop-preserved c =
    c.in_ok-push.ensures.ok ∙ (λ i. c.loop.invariant i ++ (record { words = replicate 4 0 }) ∷ [])
    ∙ replicate_more c.loop.counter (record { words = replicate 4 0 })
