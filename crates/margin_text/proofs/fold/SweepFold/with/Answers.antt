use Rattle.std.proofs.Common.{◌≡◌, ◌&&◌, ◌||◌, not, cond, max, ap, sym, ◌∙◌, rules, w64, to_z, of_z}
use Rattle.std.proofs.lemmas.Int.{to_z-of_z}
use Rattle.clock_margins.specs.Outcomes.{is_nobody, is_itself, is_others, costs_nobody, costs_others}
use Rattle.clock_margins.specs.Sums.{lies_below_0, lies_above_0, lies_from_0_on, lies_at_0, counts_with}
use Rattle.margin_laws.specs.Behind.{noted_if}
use Rattle.margin_text.proofs.FromBelow.{any-behind, spread-behind, counts-behind, most-behind}
use Rattle.margin_text.specs.Taken.{value_told}
use Rattle.margin_text.proofs.fold.SweepFold.with.Goals as goal

pub returns-clause-fold : goal.returns-clause-fold
returns-clause-fold c = λ tolds fold.
    let k = c.args.self.now.node in
    let t = value_told c.args.told.now in
    let v = t.value in
    let costs = c.whom_it_costs-costs.ensures in
    let costly : not c.is_nobody-is_costly.result ≡ not (costs_nobody k t) =
    ap not (c.is_nobody-is_costly.ensures ∙ ap is_nobody costs) in
    let hurts : c.is_others-hurts.result ≡ costs_others k t = c.is_others-hurts.ensures ∙ ap is_others costs in
    let value : to_z w64 (of_z w64 v) ≡ v = search (rules, to_z-of_z) in
    let below = c.is_below_0-is_below.ensures ∙ ap lies_below_0 value in
    let above = c.is_above_0-is_above.ensures ∙ ap lies_above_0 value in
    let at = c.both-at_0.ensures ∙ (λ i. not (below i) && not (above i)) in
    record {
      node = fold.node;
      counts =
          c.counted.ensures.counts
          ∙ (λ i. counts_with (fold.counts i) (record {
            nobody = cond (is_nobody (costs i)) 1 0;
            itself = cond (is_itself (costs i)) 1 0;
            others = cond (is_others (costs i)) 1 0;
          }))
          ∙ sym (counts-behind k tolds t);
      zero_costs =
          c.either.ensures
          ∙ (λ i. fold.zero_costs i || ((c.both.ensures ∙ (λ j. costly j && at j)) i))
          ∙ sym (any-behind (λ told. not (costs_nobody k told)) tolds t lies_at_0);
      costs_below =
          c.noted_if.ensures
          ∙ (λ i. noted_if ((c.both-2.ensures ∙ (λ j. costly j && below j)) i) (value i) (fold.costs_below i))
          ∙ sym (spread-behind (λ told. not (costs_nobody k told)) tolds t lies_below_0);
      costs_above =
          c.noted_if-2.ensures
          ∙ (λ i. noted_if ((c.both-3.ensures ∙ (λ j. costly j && above j)) i) (value i) (fold.costs_above i))
          ∙ sym (spread-behind (λ told. not (costs_nobody k told)) tolds t lies_above_0);
      below =
          c.noted_if-3.ensures
          ∙ (λ i. noted_if ((c.both-4.ensures ∙ (λ j. hurts j && below j)) i) (value i) (fold.below i))
          ∙ sym (spread-behind (costs_others k) tolds t lies_below_0);
      above =
          c.noted_if-4.ensures
          ∙ (λ i. noted_if ((c.both-5.ensures ∙ (λ j. hurts j && not (below j))) i) (value i) (fold.above i))
          ∙ sym (spread-behind (costs_others k) tolds t lies_from_0_on);
      most =
          c.max.ensures
          ∙ (λ i. max (fold.most i) ((c.from.ensures ∙ c.count.ensures) i))
          ∙ sym (most-behind tolds t);
    }
