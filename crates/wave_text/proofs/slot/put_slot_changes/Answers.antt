use Rattle.wave_text.proofs.Words.{puts_both, cluster_changes, SlotLines, subst, Puts}
use Rattle.wave_text.proofs.Puts.{read_unless_first}
use Rattle.wave_text.proofs.slot.put_slot_changes.Goals as goal

pub returns : goal.returns
returns g c =
    let earlier = read_unless_first (λ (slot : SlotLines). slot.nodes) c.args.is_first c.nodes.ensures.value in
    puts_both
    (subst (Puts _ _ _ _) (λ i. cluster_changes c.args.width (earlier i) (c.nodes-2.ensures.value i))
    c.put_cluster_changes.ensures)
    c.put_scopes.ensures
