use Rattle.wave_text.proofs.Words.{◌+◌, ◌++◌, ap, sym, ◌∙◌, length, arith, SlotLines}
use Rattle.wave_text.proofs.Words.{later_lines, slot_change_lines, subst, Puts}
use Rattle.wave_text.proofs.Words.{puts_both, refl}
use Rattle.wave_text.proofs.wave.put_later_slots.Goals as goal

pub loop-slot-init : goal.loop-slot-init
loop-slot-init g c = record {
  goes_on = λ fails end put. put;
  few = omega (arith, c.requires.few);
  shows = c.requires.first;
  size = c.requires.messages;
  free = c.requires.table;
}

pub loop-slot-preserved : goal.loop-slot-preserved
loop-slot-preserved g c =
    let known = c.loop-slot.invariant in
    let lines = later_lines c.args.width c.args.nodes c.args.ports.now in
    let time = c.loop-slot.time in
    let before = c.loop-slot.before.slot in
    let left = c.next_slot.new.self in
    record {
      goes_on = λ fails end put.
          known.goes_on fails end
          (subst (Puts _ _ _ _)
          (ap
          (λ (s : SlotLines). slot_change_lines c.args.width c.args.nodes c.args.ports.now time before s
          ++ lines (time + 1) s left)
          c.moment-now.ensures.slot
          ∙ sym (ap (lines time before) c.in-Some.ensures.some))
          (puts_both
          {x = slot_change_lines c.args.width c.args.nodes c.args.ports.now time before c.moment-now.result.slot}
          {y = lines (time + 1) c.moment-now.result.slot left}
          c.put_slot.ensures put));
      few = omega (arith, known.few, ap length c.in-Some.ensures.some);
      shows = c.moment-now.ensures.messages;
      size = c.moment-now.ensures.size;
      free = known.size;
    }

pub returns : goal.returns
returns g c =
    c.loop-slot.invariant.goes_on _ _
    (subst (Puts _ _ _ _)
    (sym (ap (later_lines c.args.width c.args.nodes c.args.ports.now c.loop-slot.time c.loop-slot.before.slot)
    (c.in_default.ensures.none refl)))
    c.put_time.ensures)
