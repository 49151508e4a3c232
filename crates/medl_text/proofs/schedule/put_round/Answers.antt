use Rattle.std.proofs.Common.{arith, length, ◌<◌, []}
use Rattle.std.proofs.lemmas.Result.{err_from_is_err_and}
use Rattle.ttp_base.proofs.Outputs.{CutShort-each, Wrote-none, WroteLines-each}
use Rattle.medl_text.specs.Schedule.{slot_line}
use Rattle.medl_text.proofs.schedule.put_round.Goals as goal

pub loop-slot-init : goal.loop-slot-init
loop-slot-init g c = Wrote-none _

pub loop-slot-preserved : goal.loop-slot-preserved
loop-slot-preserved g c =
    let text = slot_line c.args.list.now c.args.round in
    WroteLines-each _ _ _ [] text c.loop-slot.slot c.loop-slot.invariant
    (rw (← c.slot_line.ensures, ← c.bytes.ensures) c.in_ok-write.ensures.ok)

pub returns-in_err-write-clause-failed : goal.returns-in_err-write-clause-failed
returns-in_err-write-clause-failed g c =
    let failed = err_from_is_err_and c.from_residual.result c.from_residual.ensures.1 in
    let text = slot_line c.args.list.now c.args.round in
    let slot = c.loop-slot.slot in
    let less : slot < length c.args.list.now.slots = omega arith in
    rw failed.1 (CutShort-each _ _ _ [] text slot (length c.args.list.now.slots) less c.loop-slot.invariant
    (rw (← c.slot_line.ensures, ← c.bytes.ensures) c.in_err-write.ensures.failed))
