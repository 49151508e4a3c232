use Rattle.std.proofs.Common.{◌∙◌, ◌+◌, ap, length, drop, refl}
use Rattle.ttp_base.specs.Text.{lines_of}
use Rattle.ttp_world.specs.Script.{reads_in}
use Rattle.trace_run.specs.declared.run.TraceRun.{TraceRun}
use Rattle.trace_run.proofs.Slots.{at-passed}
use Rattle.trace_run.proofs.run.TraceRun.pass.Goals as goal

pub write_all-writes-requires-clause-chosen : goal.write_all-writes-requires-clause-chosen
write_all-writes-requires-clause-chosen c = c.requires.made.made.chosen

pub returns-clause-at : goal.returns-clause-at
returns-clause-at c whole made =
    let list = c.args.list.now in
    let next_run : TraceRun = record { plant = c.args.self.now.plant; outgoing = c.write_all-writes.new.outgoing } in
    at-passed list c.args.script.now c.args.self.now next_run whole c.args.slot c.requires.slot c.args.text.now
    c.skip_slot.result.now made refl c.write_all-writes.ensures.holds
    (c.skip_slot.ensures
    ∙ ap (λ n. drop (length list.slots + (n + length (reads_in c.args.script.now c.args.slot)))
    (lines_of c.args.text.now))
    c.write_all-writes.ensures.count)
