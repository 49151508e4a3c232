use Rattle.cluster_run.proofs.Words.{length, sym, ◌∙◌, eqb-true, nil_from_length}
use Rattle.cluster_run.proofs.SlotParts.{same_many, ends_slot, part_ready}
use Rattle.cluster_run.proofs.LentReaders.{none_read}
use Rattle.cluster_run.proofs.slot.end_slot.Goals as goal

pub end_unread-requires-after_bounds : goal.end_unread-requires-after_bounds
end_unread-requires-after_bounds g c κs within = part_ready c.args.at.now c.args.nodes.now c.requires

pub returns-then-is_empty-clause-ends : goal.returns-then-is_empty-clause-ends
returns-then-is_empty-clause-ends g c =
    let all = c.end_unread.ensures in
    ends_slot c.args.at.now _ _ c.requires.are all.host_ends all.chosen all.ended
    (same_many _ _ all.ended.rings ∙ c.requires.are.desks)

pub returns-then-is_empty-clause-tells : goal.returns-then-is_empty-clause-tells
returns-then-is_empty-clause-tells g c = rw c.new.ensures
    (none_read c.args.at.now c.args.nodes.now c.end_unread.new.nodes
    (sym c.reads-reads.ensures ∙ nil_from_length c.reads-reads.result.now
    (eqb-true (length c.reads-reads.result.now) 0 (sym c.is_empty.ensures ∙ c.if-is_empty.true)))
    c.end_unread.ensures.ended.handed)
