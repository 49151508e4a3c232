use Rattle.std.proofs.Common.{◌+◌, [], length, ap, ◌∙◌, subst, sym, arith}
use Rattle.ttp_world.specs.Medl.{IsValid, plan_at}
use Rattle.ttp_world.specs.World.{slot_after}
use Rattle.ground_tests.proofs.FromBelow.{chosen-step, nothing-chosen}
use Rattle.ground_tests.proofs.tests.plants.after_of.Goals as goal

pub loop-init : goal.loop-init
loop-init c =
    let stands = c.in_ok-plant.ensures.stands c.args.script.now in
    record { list = c.in_ok-plant.ensures.list; slot = stands.slot; history = []; stands = stands }

pub slot-requires-clause-chosen : goal.slot-requires-clause-chosen
slot-requires-clause-chosen c =
    let invariant = c.loop.invariant in
    let same = invariant.list in
    chosen-step c.nothing_for_all-chosen.result (subst IsValid (sym same) c.requires.valid) invariant.stands
    (nothing-chosen (slot_after c.loop.plant.list c.args.script.now invariant.history)
    c.nothing_for_all-chosen.result
    (λ k. ap (λ l. (plan_at l k).payload) same ∙ c.requires.bare k)
    (omega (arith, ap (λ l. length l.slots) same, c.requires.nodes))
    c.nothing_for_all-chosen.ensures)

pub loop-preserved : goal.loop-preserved
loop-preserved c =
    let invariant = c.loop.invariant in
    record {
      list = c.slot.ensures.list ∙ invariant.list;
      slot = c.slot.ensures.slot ∙ ap (λ n. n + 1) invariant.slot;
      history = _;
      stands = (c.slot.ensures.steps invariant.history invariant.stands).stands;
    }
