use Rattle.chart_text.proofs.Words.{◌+◌, ◌∙◌, ap, sym, arith, as_count, has_mark, one-small}
use Rattle.chart_text.proofs.Slots.{count-next}
use Rattle.chart_text.proofs.marks.count_before.Goals as goal

pub loop-t-preserved : goal.loop-t-preserved
loop-t-preserved c =
    let is = ap as_count c.has_mark.ensures in
    record {
      count =
          c.one_more-count.ensures
          ∙ (λ i. c.loop-t.invariant.count i + is i)
          ∙ sym (count-next (has_mark c.args.marks.now) c.loop-t.t);
      low = omega (arith, c.one_more-count.ensures, one-small c.has_mark.result);
    }
