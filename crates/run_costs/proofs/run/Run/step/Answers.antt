use Rattle.std.proofs.Common.{length, ap, sym, subst, ◌∙◌, ◌+◌}
use Rattle.ttp_world.specs.declared.medl.Medl.{Medl}
use Rattle.ttp_world.specs.ZerosWorld.{zeros_world}
use Rattle.ttp_world.proofs.Lists.{nodes-most}
use Rattle.controller.specs.PlantView.{PlantView}
use Rattle.run_costs.specs.Standing.{AreOfPlant}
use Rattle.run_costs.proofs.Plants.{plant-shown}
use Rattle.run_costs.proofs.run.Run.step.Goals as goal

pub step-requires-clause-stands : goal.step-requires-clause-stands
step-requires-clause-stands c =
    let stands = c.requires.stands in
    record { same = stands.same; plant = stands.plant; zeros = stands.zeros }

pub note_states-requires-clause-nodes : goal.note_states-requires-clause-nodes
note_states-requires-clause-nodes c =
    c.nodes.ensures
    ∙ sym (ap (λ (p : PlantView). length p.list.slots) c.plant.ensures
    ∙ ap (λ (l : Medl). length l.slots) c.step.ensures.same)

pub returns : goal.returns
returns c =
    let list = c.args.list.now in
    let script = c.args.script.now in
    let stands = c.step.ensures in
    let states = c.note_states.new.states in
    let are = subst (λ (p : PlantView). AreOfPlant p c.nodes.result states) c.plant.ensures c.note_states.ensures in
    record {
      same = stands.same;
      plant = stands.plant;
      zeros = stands.zeros;
      room = are.room;
      states = λ some.
          plant-shown list script (zeros_world list script (c.args.slot + 1))
          c.step.new.self.plant c.nodes.result states
          stands.same c.nodes.ensures (nodes-most list c.requires.list) stands.plant are;
    }
