use Rattle.chart_text.proofs.Words.{◌≡◌, ◌<◌, ◌+◌, ◌∙◌, ap, sym, subst, ℕ, length, get_or, arith}
use Rattle.chart_text.proofs.Words.{in_order_from, column_lines, column_of, shown_before, faults_told_in, SameFrom}
use Rattle.chart_text.proofs.Words.{longest_text, marked_slots}
use Rattle.ttp_base.specs.declared.sheet.Sheet.{Sheet}
use Rattle.chart_text.specs.Steps.{Roomy}
use Rattle.chart_text.proofs.Order.{same-then, same-later}
use Rattle.chart_text.proofs.Slots.{count-marked, count-unmarked, marked-at, shown_before-next}
use Rattle.chart_text.proofs.Written.{columns_next, columns_same}
use Rattle.chart_text.proofs.column.put_columns.Goals as goal
use Rattle.chart_text.proofs.column.put_columns.Goals.{then-has_mark, else-has_mark}

pub loop-slot-preserved : goal.loop-slot-preserved
loop-slot-preserved g c =
    let t = c.loop-slot.slot in
    let n = c.loop-slot.number in
    let all = c.args.ahead.now in
    let size = c.args.extent.size in
    let shown = marked_slots c.args.marks.now in
    elim c.if-has_mark.branch [
      | then-has_mark w ↦
          let is = sym c.has_mark.ensures ∙ w.if-has_mark.true in
          let within : t < length c.args.marks.now = omega arith in
          let at : get_or shown n 0 ≡ t =
          ap (λ (k : ℕ). get_or shown k 0) c.loop-slot.invariant.count ∙ marked-at c.args.marks.now t within is in
          let here : faults_told_in t all ≡ faults_told_in t c.loop-slot.ahead =
          c.loop-slot.invariant.same t (omega arith) in
          let these : column_of size n c.loop-slot.before t (faults_told_in t c.loop-slot.ahead)
          ≡ column_lines size shown all n =
          ap (column_of size n c.loop-slot.before t) (sym here)
          ∙ (λ i. column_of size n (c.loop-slot.invariant.before i) (sym at i) (faults_told_in (sym at i) all)) in
          let later = same-then (t + 1) all c.loop-slot.ahead w.put_column.new.ahead
          (same-later t (t + 1) all c.loop-slot.ahead c.loop-slot.invariant.same (omega arith))
          w.put_column.ensures.same in
          record {
            count = w.number-is ∙ count-marked c.args.marks.now t n is c.loop-slot.invariant.count;
            low = omega (arith, w.number-is);
            before = w.before-is ∙ shown_before-next shown n t at ∙ ap (shown_before shown) (sym w.number-is);
            puts =
                columns_next (column_lines size shown all) n c.if-has_mark.number
                (column_of size n c.loop-slot.before t (faults_told_in t c.loop-slot.ahead)) c.loop-slot.invariant.puts
                w.put_column.ensures.puts these (ap (λ (s : Sheet). s.failed) w.sheet-is)
                (ap g.K.Sink.output w.out-is) w.number-is;
            same = subst (SameFrom (t + 1) all) (sym w.ahead-is) later;
            order = ap (in_order_from 0) w.ahead-is ∙ w.put_column.ensures.order;
            few = omega (arith, ap length w.ahead-is, w.put_column.ensures.few);
            short = omega (arith, ap longest_text w.ahead-is, w.put_column.ensures.short);
            room = ap (λ (b : Roomy). b.room) w.buffer-is ∙ w.put_column.ensures.room ∙ c.loop-slot.invariant.room;
          }
      | else-has_mark w ↦
          let none = sym c.has_mark.ensures ∙ w.if-has_mark.false in
          let later = same-later t (t + 1) all c.loop-slot.ahead c.loop-slot.invariant.same (omega arith) in
          record {
            count = w.number-is ∙ count-unmarked c.args.marks.now t n none c.loop-slot.invariant.count;
            low = omega (arith, w.number-is);
            before = w.before-is ∙ c.loop-slot.invariant.before ∙ ap (shown_before shown) (sym w.number-is);
            puts =
                columns_same (column_lines size shown all) n c.if-has_mark.number c.loop-slot.invariant.puts
                (ap (λ (s : Sheet). s.failed) w.sheet-is) (ap g.K.Sink.output w.out-is) w.number-is;
            same = subst (SameFrom (t + 1) all) (sym w.ahead-is) later;
            order = ap (in_order_from 0) w.ahead-is ∙ c.loop-slot.invariant.order;
            few = omega (arith, ap length w.ahead-is);
            short = omega (arith, ap longest_text w.ahead-is);
            room = ap (λ (b : Roomy). b.room) w.buffer-is ∙ c.loop-slot.invariant.room;
          }
    ]
