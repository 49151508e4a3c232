use Rattle.std.proofs.Common.{ap, ◌∙◌}
use Rattle.broken_rules.specs.Clocks.{past_bound_in}
use Rattle.broken_rules.specs.Conditions.{narrow_by}
use Rattle.broken_rules.proofs.conditions.broken_conditions.Goals as goal

pub returns : goal.returns
returns c =
    let list = c.args.list.now in
    let script = c.args.script.now in
    (λ i. record {
      clocks = (c.past_bound.ensures ∙ ap (past_bound_in list script) c.requires.clocks) i;
      window = (c.narrow_by.ensures ∙ ap (narrow_by list) c.requires.armed) i;
      disturbed = c.first_disturbed.ensures i;
      start = c.no_start.ensures i;
    })
