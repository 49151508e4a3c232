use Rattle.chart_text.proofs.Words.{◌≢◌, ◌+◌, ◌<◌, ◌∙◌, sym, false, get_or, length, arith}
use Rattle.chart_text.proofs.Words.{get_or-set_other, as_count, has_mark, one-small}
use Rattle.chart_text.proofs.Slots.{count-next, kept-next}
use Rattle.chart_text.proofs.marks.keep_from.Goals as goal

pub loop-t-preserved : goal.loop-t-preserved
loop-t-preserved c =
    let t = c.loop-t.t in
    let is = get_or c.loop-t.marks t false in
    let later = c.loop-t.invariant.later t (omega arith) in
    let within : t < length c.loop-t.marks = omega arith in
    record {
      count =
          c.one_more-number.ensures
          ∙ (λ i. c.loop-t.invariant.count i + as_count (later i))
          ∙ sym (count-next (has_mark c.args.marks.now) t);
      low = omega (arith, c.one_more-number.ensures, one-small is);
      kept =
          kept-next c.args.marks.now c.loop-t.marks c.args.first c.args.most t
          c.loop-t.number is c.stays_of.result within
          (sym later) c.loop-t.invariant.count c.stays_of.ensures c.loop-t.invariant.kept;
      later = λ s from.
          let other : s ≢ t = omega (arith, from) in
          get_or-set_other c.loop-t.marks t s c.stays_of.result false other
          ∙ c.loop-t.invariant.later s (omega (arith, from));
    }
