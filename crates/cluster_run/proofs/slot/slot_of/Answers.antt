use Rattle.cluster_run.proofs.Words.{ap, ◌∙◌, length, desk_numbers, HaveEndedSlot}
use Rattle.cluster_run.proofs.SlotSteps.{TakenSlot, row as row_taken, before as world_before, has_ended, is_next}
use Rattle.cluster_run.proofs.slot.slot_of.Goals as goal

pub returns-clause-steps : goal.returns-clause-steps
returns-clause-steps g c = λ numbers stands.
    let at = c.args.at.now in
    let new = c.end_slot.new.nodes in
    let so : TakenSlot = record {
      at = at;
      numbers = numbers;
      old = c.args.nodes.now;
      mid = c.plan.new.nodes;
      new = new;
      writes = c.in_ok-writes.writes.items;
      reads = c.in_ok-reads.reads;
      stands = stands;
      plans = c.in_ok-writes.ensures;
      ends = c.in_ok-reads.ensures.ends;
      tells = c.in_ok-reads.ensures.tells;
    } in
    let row = row_taken so in
    let before = world_before so in
    let there : HaveEndedSlot at.list.now at.script.now row before
    c.deref.result.now (desk_numbers c.deref-2.result.now) =
    rw (c.deref.ensures.value, c.deref-2.ensures.value) (has_ended so) in
    let lines = rw (ap length c.deref.ensures.value ∙ so.ends.are.seats_count)
    at (c.in_ok-lines.ensures at.list.now at.script.now row before there) in
    rw c.from_vec.ensures (is_next so c.in_ok-lines.lines lines)
