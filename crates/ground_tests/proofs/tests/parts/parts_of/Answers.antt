use Rattle.std.proofs.Common.{List, [], ◌∷◌, ◌+◌, refl, subst, sym, arith}
use Rattle.std.proofs.lemmas.List.{with_items_is}
use Rattle.ttp_world.specs.World.{row_in, slot_after}
use Rattle.ground_tests.proofs.FromBelow.{chosen-step, nothing-chosen}
use Rattle.controller.specs.PlantStands.{PlantStandsFor, MayStep, plant_of}
use Rattle.controller.specs.declared.seat.Seat.{Seat}
use Rattle.ground_tests.proofs.tests.parts.parts_of.Goals as goal

pub loop-slot-init : goal.loop-slot-init
loop-slot-init c =
    let new = c.in_ok-seats.ensures in
    record {
      history = [];
      stands = record { slot = refl; count = new.count; are = new.seats; seats = new.stand };
    }

pub step_in_parts-requires-clause-chosen : goal.step_in_parts-requires-clause-chosen
step_in_parts-requires-clause-chosen c =
    let invariant = c.loop-slot.invariant in
    subst
    (λ (seats : List Seat). MayStep
    (plant_of c.args.list.now c.loop-slot.slot seats c.loop-slot.medium) c.args.script.now
    c.nothing_for_all-chosen.result) (sym c.deref_mut.ensures.value)
    (chosen-step c.nothing_for_all-chosen.result c.requires.valid invariant.stands
    (nothing-chosen (slot_after c.args.list.now c.args.script.now invariant.history)
    c.nothing_for_all-chosen.result c.requires.bare (omega (arith, c.requires.nodes))
    c.nothing_for_all-chosen.ensures))

pub loop-slot-preserved : goal.loop-slot-preserved
loop-slot-preserved c =
    let invariant = c.loop-slot.invariant in
    let stands : PlantStandsFor (plant_of c.args.list.now c.loop-slot.slot c.deref_mut.result.now c.loop-slot.medium)
    c.args.script.now invariant.history =
    subst
    (λ (seats : List Seat). PlantStandsFor
    (plant_of c.args.list.now c.loop-slot.slot seats c.loop-slot.medium) c.args.script.now
    invariant.history) (sym c.deref_mut.ensures.value) invariant.stands in
    let told = with_items_is c.loop-slot.seats c.step_in_parts.new.seats
    (omega (arith, c.step_in_parts.ensures.nodes, c.deref_mut.ensures.len)) in
    let before = invariant.history in
    let row = row_in (slot_after c.args.list.now c.args.script.now before) c.nothing_for_all-chosen.result in
    record {
      history = row ∷ before;
      stands =
          subst
          (λ (seats : List Seat). PlantStandsFor
          (plant_of c.args.list.now (c.loop-slot.slot + 1) seats c.step_in_parts.new.medium)
          c.args.script.now (row ∷ before)) (sym told) (c.step_in_parts.ensures.steps before stands).stands;
    }
