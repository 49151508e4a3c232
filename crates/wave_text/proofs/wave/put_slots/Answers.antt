use Rattle.wave_text.proofs.Words.{◌++◌, ap, sym, ◌∙◌, refl, SlotLines, all_slots_lines}
use Rattle.wave_text.proofs.Words.{first_slot_lines, later_lines, subst, Puts}
use Rattle.wave_text.proofs.Words.{puts_both}
use Rattle.wave_text.proofs.wave.put_slots.Goals as goal

pub returns-in-None : goal.returns-in-None
returns-in-None g c =
    subst (Puts _ _ _ _) (sym
    (ap (all_slots_lines c.args.width c.args.nodes c.args.ports.now) (c.in-None.ensures.none refl)))
    c.put_time.ensures

pub returns-in-Some : goal.returns-in-Some
returns-in-Some g c =
    let width = c.args.width in
    let n = c.args.nodes in
    let ports = c.args.ports.now in
    subst (Puts _ _ _ _)
    (ap (λ (s : SlotLines). first_slot_lines width n ports s ++ later_lines width n ports 1 s c.next_slot.new.self)
    c.moment-first.ensures.slot
    ∙ sym (ap (all_slots_lines width n ports) c.in-Some.ensures.some))
    (puts_both c.put_first_slot.ensures c.put_later_slots.ensures)
