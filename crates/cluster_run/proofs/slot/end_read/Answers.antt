use Rattle.cluster_run.proofs.Words.{length, map, ap, ◌∙◌, with_items_is, desk_ends, rings_of}
use Rattle.cluster_run.proofs.Changes.{kept_items}
use Rattle.cluster_run.proofs.SlotParts.{same_many, ends_slot, part_ready}
use Rattle.cluster_run.proofs.LentReaders.{all_lent_for, hosts_within, may_read_all, still_own}
use Rattle.cluster_run.proofs.slot.end_read.Goals as goal

pub end_and_read-requires-clause-ready : goal.end_and_read-requires-clause-ready
end_and_read-requires-clause-ready g c κs within =
    rw (kept_items c.args.nodes.now.desks c.deref_mut.ensures.value
    c.deref_mut.ensures.len c.lend_readers.ensures.desks)
    (part_ready c.args.at.now c.args.nodes.now c.requires.may)

pub end_and_read-requires-clause-left : goal.end_and_read-requires-clause-left
end_and_read-requires-clause-left g c κs within =
    rw c.requires.reads
    (may_read_all (all_lent_for c.args.nodes.now c.requires.may c.deref_mut.ensures.value c.requires.reads
    c.in_ok-lent.ensures.lent))

pub read_lines-requires-clause-own : goal.read_lines-requires-clause-own
read_lines-requires-clause-own g c =
    let nodes = c.args.nodes.now in
    let done = c.in_ok-readers.ensures in
    let lent = all_lent_for nodes c.requires.may c.deref_mut.ensures.value c.requires.reads c.in_ok-lent.ensures.lent in
    rw c.deref_mut-2.ensures.value
    (still_own (desk_ends nodes.desks.items) _ _ _
    (done.ended.ended.rings
    ∙ ap (λ ds. map rings_of (desk_ends ds))
    (kept_items nodes.desks c.deref_mut.ensures.value c.deref_mut.ensures.len c.lend_readers.ensures.desks))
    done.read lent.lent)

pub read_lines-requires-clause-hosts : goal.read_lines-requires-clause-hosts
read_lines-requires-clause-hosts g c =
    let at = c.args.at.now in
    let nodes = c.args.nodes.now in
    let lent = kept_items nodes.desks c.deref_mut.ensures.value c.deref_mut.ensures.len c.lend_readers.ensures.desks in
    let many = ap length c.deref_mut-2.ensures.value ∙ same_many _ _ c.in_ok-readers.ensures.ended.ended.rings
    ∙ ap length lent ∙ c.requires.may.are.desks in
    rw (c.requires.reads, many) (hosts_within at.list.now at.script.now at.slot at.valid_script)

pub returns-clause-ends : goal.returns-clause-ends
returns-clause-ends g c =
    let nodes = c.args.nodes.now in
    let are = c.requires.may.are in
    let all = c.in_ok-readers.ensures.ended in
    let lent = kept_items nodes.desks c.deref_mut.ensures.value c.deref_mut.ensures.len c.lend_readers.ensures.desks in
    let settled = with_items_is c.end_and_read.new.nodes.desks _
    (c.read_lines.ensures.count ∙ c.deref_mut-2.ensures.len) in
    ends_slot c.args.at.now nodes _ are all.host_ends all.chosen all.ended
    (ap length settled ∙ c.read_lines.ensures.count ∙ ap length c.deref_mut-2.ensures.value
    ∙ same_many _ _ all.ended.rings ∙ ap length lent ∙ are.desks)

pub returns-clause-tells : goal.returns-clause-tells
returns-clause-tells g c =
    let nodes = c.args.nodes.now in
    let done = c.end_and_read.new.nodes in
    let lent = all_lent_for nodes c.requires.may c.deref_mut.ensures.value c.requires.reads c.in_ok-lent.ensures.lent in
    let kept = kept_items nodes.desks c.deref_mut.ensures.value c.deref_mut.ensures.len c.lend_readers.ensures.desks in
    let settled = with_items_is done.desks _ (c.read_lines.ensures.count ∙ c.deref_mut-2.ensures.len) in
    record {
      handed = desk_ends done.desks.items;
      first = c.in_ok-lent.lent.items;
      last = c.in_ok-readers.readers.items;
      handed_are = rw (settled, c.read_lines.ensures.numbers, c.deref_mut-2.ensures.value)
          (rw kept at c.in_ok-readers.ensures.ended.ended.handed);
      lent = lent.lent;
      read = rw (← c.requires.reads) c.in_ok-readers.ensures.read;
      settles = rw settled (rw c.deref_mut-2.ensures.value at c.in_ok-lines.ensures.settles);
      told = rw c.requires.reads at c.in_ok-lines.ensures.lines;
    }
