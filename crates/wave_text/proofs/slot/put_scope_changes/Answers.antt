use Rattle.wave_text.proofs.Words.{puts_both, node_at, node_changes, SlotLines, subst, Puts}
use Rattle.wave_text.proofs.Puts.{read_unless_first}
use Rattle.wave_text.proofs.slot.put_scope_changes.Goals as goal

pub returns : goal.returns
returns g c =
    let earlier = read_unless_first (λ (slot : SlotLines). node_at slot c.args.node) c.args.is_first
    c.node_at-earlier.ensures in
    puts_both
    (subst (Puts _ _ _ _) (λ i. node_changes c.args.width c.args.node (earlier i) (c.node_at-shown.ensures i))
    c.put_node_changes.ensures)
    c.put_host_changes.ensures
