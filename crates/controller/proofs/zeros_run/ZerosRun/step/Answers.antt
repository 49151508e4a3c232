use Rattle.controller.proofs.Words.{length, ap, ◌∙◌, arith}
use Rattle.ttp_world.proofs.ZerosWorlds.{length-all_zeros, length-zeros_world}
use Rattle.controller.proofs.ZerosRuns.{zeros-may_step, zeros-stepped}
use Rattle.controller.proofs.zeros_run.ZerosRun.step.Goals as goal

pub slot-requires-clause-slot : goal.slot-requires-clause-slot
slot-requires-clause-slot c =
    let count = length-zeros_world c.args.list.now c.args.script.now c.args.slot in
    omega (arith, c.requires.stands.plant.slot, count, c.requires.slot)

pub slot-requires-clause-count : goal.slot-requires-clause-count
slot-requires-clause-count c =
    ap length (c.as_slice.ensures ∙ c.requires.stands.zeros) ∙ length-all_zeros c.args.list.now

pub slot-requires-clause-chosen : goal.slot-requires-clause-chosen
slot-requires-clause-chosen c =
    zeros-may_step c.args.list.now c.args.script.now c.args.slot
    c.args.self.now.plant c.as_slice.result.now c.requires.list
    c.requires.stands.same (c.as_slice.ensures ∙ c.requires.stands.zeros) c.requires.stands.plant

pub returns : goal.returns
returns c =
    let stands = c.requires.stands in
    let same = c.slot.ensures.list ∙ stands.same in
    record {
      same = same;
      plant =
          zeros-stepped c.args.list.now c.args.script.now c.args.slot c.args.self.now.plant c.slot.new.self
          c.as_slice.result.now same (c.as_slice.ensures ∙ stands.zeros) c.slot.ensures.steps stands.plant;
      zeros = stands.zeros;
    }
