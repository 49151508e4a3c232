use Rattle.std.proofs.Common.{◌≤◌, sym, subst, arith}
use Rattle.ttp_world.specs.declared.script.Script.{Script}
use Rattle.controller.specs.Agreement.{begins_at}
use Rattle.run_costs.proofs.FromBelow.{agree-more}
use Rattle.campaign.specs.Tried.{with_fault}
use Rattle.ttp_world.specs.ZerosWorld.{zeros_world}
use Rattle.run_costs.specs.Standing.{IsRunAfter}
use Rattle.run_costs.specs.declared.run.Run.{Run}
use Rattle.run_costs.proofs.Later.{later-begins}
use Rattle.ttp_world.proofs.ZerosWorlds.{length-zeros_world}
use Rattle.run_costs.proofs.LaterEvents.{run-longer}
use Rattle.run_costs.proofs.seen_run.SeenRun.go_on_from.Goals as goal

pub returns : goal.returns
returns c = λ script is later past.
    let list = c.args.list.now in
    let event = c.args.event.now in
    let slots = c.args.past.now.slots in
    let begins = later-begins slots event later in
    let plant = past.stands.plant in
    let near : c.args.past.now.run.cluster.plant.slot ≤ begins_at event =
    omega (arith, begins, plant.slot, length-zeros_world list script slots) in
    let stands = c.plants_of_scripts_that_agree.ensures
    c.args.past.now.run.cluster.plant script (with_fault script event)
    (zeros_world list script slots) (agree-more script event c.args.past.now.run.cluster.plant.slot near) plant in
    let goes : IsRunAfter c.args.past.now.run list (with_fault script event) slots =
    run-longer list script event slots begins c.args.past.now.run past.stands stands in
    record {
      count = past.count;
      within = c.requires.slots;
      stands =
          subst (λ (r : Run). IsRunAfter r list c.args.more.now slots) (sym c.copy_from.ensures)
          (subst (λ (s : Script). IsRunAfter c.args.past.now.run list s slots) (sym is) goes);
      seen = c.with_later-self.ensures script is later past.seen;
    }
