use Rattle.std.proofs.Common.{◌+◌, ap, sym, ◌∙◌}
use Rattle.clock_margins.specs.declared.margin.Total.{Total}
use Rattle.clock_margins.specs.Sums.{nearer, count_of_values}
use Rattle.margin_laws.specs.Behind.{total_behind}
use Rattle.margin_text.proofs.FromBelow.{total-behind}
use Rattle.margin_text.proofs.fold.with_margin.Goals as goal

pub returns-clause-total : goal.returns-clause-total
returns-clause-total c = λ margins is.
    let total = c.args.total.now in
    let margin = c.args.margin.now in
    (λ i. record {
      sweeps = total.sweeps + 1;
      values = total.values + count_of_values margin.counts;
      counts = c.counts_with.ensures i;
      free = c.common.ensures i;
      least = (c.nearer.ensures ∙ ap (nearer total.least) c.nearest.ensures) i;
      most = c.max.ensures i;
    })
    ∙ ap (λ (t : Total). total_behind t margin) is ∙ sym (total-behind margins margin)
