use Rattle.wave_text.proofs.Words.{puts_both, declarations, all_slots_lines, subst, Puts}
use Rattle.wave_text.proofs.wave.put_all.Goals as goal

pub returns : goal.returns
returns g c =
    let width = c.member_room-width.ensures.value in
    let head = c.head-nodes.ensures.value in
    let found = c.requires.found in
    puts_both
    (puts_both c.put_head.ensures
    (subst (Puts _ _ _ _) (λ i. declarations (width i) (head i).nodes (found i)) c.put_declarations.ensures))
    (puts_both c.put.ensures
    (subst (Puts _ _ _ _) (λ i. all_slots_lines (width i) (head i).nodes (found i)
    (c.slots.ensures i)) c.put_slots.ensures))
