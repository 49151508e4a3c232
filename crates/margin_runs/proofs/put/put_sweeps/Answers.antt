use Rattle.std.proofs.Common.{◌≤◌, Option, subst}
use Rattle.campaign.specs.declared.cost.Span.{Span}
use Rattle.clock_margins.specs.Sweeps.{value_limit}
use Rattle.margin_runs.proofs.put.put_sweeps.Goals as goal

pub put_drifts-requires-clause-reach : goal.put_drifts-requires-clause-reach
put_drifts-requires-clause-reach g c κs within =
    subst (λ (o : Option Span). c.args.common.now.reach ≤ value_limit o) c.in-None.is c.requires.reach

pub put_slots-requires-clause-reach : goal.put_slots-requires-clause-reach
put_slots-requires-clause-reach g c κs within =
    subst (λ (o : Option Span). c.args.common.now.reach ≤ value_limit o) c.in-Some.is c.requires.reach

pub put_slots-requires-clause-own : goal.put_slots-requires-clause-own
put_slots-requires-clause-own g c κs within = c.in-Ok.ensures c.args.common.now.script.now
