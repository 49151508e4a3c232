use Rattle.trace_check.proofs.Words.{◌++◌, ◌∷◌, [], ◌∙◌, replicate_more}
use Rattle.trace_check.proofs.incoming.first_floors.Goals as goal

pub loop-preserved : goal.loop-preserved
loop-preserved c =
    c.in_ok-push.ensures.ok ∙ (λ i. c.loop.invariant i ++ 0 ∷ []) ∙ replicate_more c.loop.counter 0
