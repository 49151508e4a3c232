use Rattle.std.proofs.Common.{subst}
use Rattle.run_costs.specs.FaultyAt.{KnowsFaulty}
use Rattle.run_costs.proofs.seen_costs.faulty.Faulty.forgetting.Goals as goal

pub returns-in-Kept : goal.returns-in-Kept
returns-in-Kept c = λ list script slot known.
    let kept = subst (KnowsFaulty list script slot) c.in-Kept.is known in
    (kept.0, c.forgetting.ensures list script slot kept.1)

pub returns-in-Back : goal.returns-in-Back
returns-in-Back c = λ list script slot known.
    let back = subst (KnowsFaulty list script slot) c.in-Back.is known in
    (back.0, c.forgetting-in-Back.ensures list script slot back.1)
