use Rattle.chart_text.proofs.Words.{◌+◌, ◌∙◌, ap, sym, ℕ, get_or, arith, and_parts, ◌==◌}
use Rattle.chart_text.proofs.Words.{as_count, has_mark, marked_slots, one-small}
use Rattle.std.proofs.lemmas.Bool.{eqb-true}
use Rattle.chart_text.proofs.Slots.{count-next, marked-at, low-next}
use Rattle.chart_text.proofs.marks.marked_slot.Goals as goal

pub returns-then-is_it : goal.returns-then-is_it
returns-then-is_it c =
    let parts = and_parts c.has_mark-is_marked.result (c.loop-t.passed == c.args.number)
    (sym c.is_it.ensures ∙ c.if-is_it.true) in
    let here = sym c.has_mark-is_marked.ensures ∙ parts.0 in
    sym (ap (λ (n : ℕ). get_or (marked_slots c.args.marks.now) n 0)
    (sym (eqb-true c.loop-t.passed c.args.number parts.1) ∙ c.loop-t.invariant.count)
    ∙ marked-at c.args.marks.now c.loop-t.t (omega arith) here)

pub loop-t-preserved : goal.loop-t-preserved
loop-t-preserved c =
    let is = ap as_count c.has_mark-is_marked.ensures in
    let next = low-next c.has_mark-is_marked.result c.loop-t.passed c.args.number
    (sym c.is_it.ensures ∙ c.if-is_it.false)
    c.loop-t.invariant.low in
    record {
      count =
          c.one_more-passed.ensures
          ∙ (λ i. c.loop-t.invariant.count i + is i)
          ∙ sym (count-next (has_mark c.args.marks.now) c.loop-t.t);
      low = omega (arith, c.one_more-passed.ensures, next);
      few = omega (arith, c.one_more-passed.ensures, one-small c.has_mark-is_marked.result);
    }
