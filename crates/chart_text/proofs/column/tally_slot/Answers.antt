use Rattle.chart_text.proofs.Words.{◌∙◌, ap, refl, sym, length, subst, drop, List, arith, told_of, FaultTold}
use Rattle.chart_text.proofs.Words.{faults_told_in, in_order_from, AreTallies}
use Rattle.chart_text.proofs.Order.{passed-few, passed-order_from, passed-here, none-left, few-of-slot}
use Rattle.chart_text.proofs.Tallied.{room-whole, room-each, tallies-whole}
use Rattle.chart_text.proofs.column.tally_slot.Goals as goal

pub note-requires-clause-all : goal.note-requires-clause-all
note-requires-clause-all c =
    room-whole c.args.size c.loop-fault.tallies _ (faults_told_in c.args.slot c.args.from.now)
    (omega (arith, few-of-slot c.args.slot c.args.from.now)) c.loop-fault.invariant.tallies

pub note-requires-clause-each : goal.note-requires-clause-each
note-requires-clause-each c =
    room-each c.args.size c.loop-fault.tallies _ (faults_told_in c.args.slot c.args.from.now)
    (omega (arith, few-of-slot c.args.slot c.args.from.now)) c.loop-fault.invariant.tallies

pub loop-fault-init : goal.loop-fault-init
loop-fault-init c = record {
  tallies =
      subst (λ (ys : List FaultTold). AreTallies c.args.size c.new-tallies.result (faults_told_in c.args.slot ys)
      (faults_told_in c.args.slot c.args.from.now)) (sym c.again-ahead.ensures)
      (c.new-tallies.ensures (faults_told_in c.args.slot c.args.from.now));
  order = ap (in_order_from c.args.slot) c.again-ahead.ensures ∙ c.requires.order;
  few = omega (arith, ap length c.again-ahead.ensures);
}

pub loop-fault-preserved : goal.loop-fault-preserved
loop-fault-preserved c =
    let slot = c.args.slot in
    let old = c.loop-fault.ahead in
    let new = c.pass.new.self in
    let x = told_of c.in-Some.fault in
    let is = c.in-Some.ensures.some in
    let few = passed-few old new (drop 1 old) x is c.pass.ensures in
    let here = passed-here slot old new (drop 1 old) x is c.pass.ensures (c.if-fault-slot.false) in
    record {
      tallies =
          c.note.ensures (faults_told_in slot new) (faults_told_in slot c.args.from.now)
          (subst (λ (ys : List FaultTold). AreTallies c.args.size c.loop-fault.tallies ys
          (faults_told_in slot c.args.from.now)) here c.loop-fault.invariant.tallies);
      order =
          passed-order_from slot slot old new (drop 1 old) x is c.pass.ensures
          c.loop-fault.invariant.order (omega arith);
      few = omega (arith, few.0);
    }

pub returns-then-fault-slot : goal.returns-then-fault-slot
returns-then-fault-slot c =
    tallies-whole c.args.size c.loop-fault.tallies (faults_told_in c.args.slot c.loop-fault.ahead) _
    (none-left c.args.slot c.loop-fault.ahead _ (told_of c.in-Some.fault) c.in-Some.ensures.some
    c.loop-fault.invariant.order c.if-fault-slot.true)
    c.loop-fault.invariant.tallies

pub returns : goal.returns
returns c =
    tallies-whole c.args.size c.loop-fault.tallies (faults_told_in c.args.slot c.loop-fault.ahead) _
    (ap (faults_told_in c.args.slot) (c.in_default.ensures.none refl)) c.loop-fault.invariant.tallies
