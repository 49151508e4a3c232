use Rattle.ttp_top.proofs.Terms.{sym}
use Rattle.ttp_top.proofs.Scripts.Slots.{tells, slot_written, slot_cut}
use Rattle.ttp_top.proofs.trace.SlotWriterWatch.told.Goals as goal

pub put_slot-requires : goal.put_slot-requires
put_slot-requires g c =
    let t = c.requires.3 in
    let w = c.requires.4 in
    let told = tells c.requires.1 c.requires.2 t.stepped w.numbers w.stands w.legal in
    rw (sym t.list_is, sym t.report_is) (record { nodes = told.nodes; digits = told.digits; reads = told.reads })

pub returns-in-Ok-clause-ok : goal.returns-in-Ok-clause-ok
returns-in-Ok-clause-ok g c = λ first before now t w.
    slot_written before now t.stepped first (g.K.Sink.output c.args.out.now) (g.K.Sink.output c.put_slot.new.out)
    (rw (t.list_is, t.report_is) c.in-Ok.ensures.ok) w

pub returns-in-Err-clause-fault : goal.returns-in-Err-clause-fault
returns-in-Err-clause-fault g c = λ first before now t w.
    slot_cut before now t.stepped first (g.K.Sink.output c.args.out.now) (g.K.Sink.output c.put_slot.new.out)
    (rw (t.list_is, t.report_is) c.in-Err.ensures.failed) w
