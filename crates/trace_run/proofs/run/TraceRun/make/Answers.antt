use Rattle.std.proofs.Common.{◌-◌, sym, subst, arith}
use Rattle.ttp_world.proofs.Worlds.{length-world}
use Rattle.trace_check.specs.Outgoing.{Chooses, HoldsNewest, number_by_text}
use Rattle.trace_run.proofs.FromBelow.{legal-drop as legal-first}
use Rattle.trace_run.specs.declared.run.TraceRun.{TraceRun}
use Rattle.trace_run.specs.Run.{first_numbers}
use Rattle.trace_run.proofs.Slots.{first-length, made-next, may-step}
use Rattle.trace_run.proofs.run.TraceRun.make.Goals as goal

pub choose-requires-clause-holds : goal.choose-requires-clause-holds
choose-requires-clause-holds c =
    let at = c.requires.at in
    let few = c.requires.slot in
    subst (HoldsNewest c.args.self.now.outgoing c.args.list.now c.args.script.now)
    (first-length c.args.script.now at.whole c.args.slot at.at.left.legal.count (omega (arith, few)))
    at.at.stands.outgoing

pub slot-requires-clause-slot : goal.slot-requires-clause-slot
slot-requires-clause-slot c =
    let at = c.requires.at in
    let few = c.requires.slot in
    let script = c.args.script.now in
    let older = first_numbers script at.whole c.args.slot in
    let slot = at.at.stands.plant.slot in
    let count = length-world c.args.list.now script older in
    let long = first-length script at.whole c.args.slot at.at.left.legal.count (omega (arith, few)) in
    omega (arith, slot, count, long, few)

pub slot-requires-clause-chosen : goal.slot-requires-clause-chosen
slot-requires-clause-chosen c =
    let at = c.requires.at in
    let few = c.requires.slot in
    let list = c.args.list.now in
    let script = c.args.script.now in
    let text = c.args.text.now in
    let older = first_numbers script at.whole c.args.slot in
    let long = first-length script at.whole c.args.slot at.at.left.legal.count (omega (arith, few)) in
    may-step list script c.requires.list c.requires.script older
    (legal-first list script at.whole (script.slots - c.args.slot) at.at.left.legal.legal) c.choose.new.self text
    (subst (λ n. Chooses c.choose.new.self list script n (number_by_text list script n text))
    (sym long) c.choose.ensures)
    c.chosen.result.now c.chosen.ensures c.args.self.now.plant at.at.stands.same at.at.stands.plant

pub returns : goal.returns
returns c whole at =
    let next_run : TraceRun = record { plant = c.slot.new.self; outgoing = c.choose.new.self } in
    made-next c.args.list.now c.args.script.now c.args.self.now next_run whole
    c.args.slot c.requires.slot c.args.text.now
    c.requires.list c.requires.script at c.choose.ensures c.slot.ensures.list
    (rw (← c.chosen.ensures) c.slot.ensures.steps)
