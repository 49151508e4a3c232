use Rattle.std.proofs.Common.{◌≡◌, ◌≢◌, ◌<◌, ℕ, length, ap, sym, subst, ◌∙◌, arith}
use Rattle.std.proofs.Common.{below_more, get_or-set_other}
use Rattle.std.proofs.Math.ListN.{length-set}
use Rattle.std.specs.Prelude.{slice_set}
use Rattle.std.proofs.lemmas.List.{get_or-set_same}
use Rattle.controller.specs.PlantStands.{ShowsNode}
use Rattle.run_costs.specs.States.{off_state, state_at}
use Rattle.run_costs.proofs.run.note_states.Goals as goal

pub loop-node-preserved : goal.loop-node-preserved
loop-node-preserved c =
    let plant = c.args.plant.now in
    let k = c.from.result in
    let node = c.loop-node.node in
    let states = c.loop-node.states in
    let are = c.loop-node.invariant in
    let same : k ≡ node = c.from.ensures in
    let room : k < length states = omega (arith, are.room, c.requires.few, c.loop-node-test.true, same) in
    record {
      room = length-set states k c.node.result ∙ are.room;
      shown =
          below_more _ _
          (λ j earlier.
          let other : j ≢ k = omega arith in
          subst (ShowsNode plant j) (sym (get_or-set_other states k j c.node.result off_state other))
          (are.shown j earlier))
          (subst (ShowsNode plant node)
          (sym (get_or-set_same states k c.node.result off_state room)
          ∙ ap (λ (n : ℕ). state_at (slice_set states k c.node.result) n) same)
          c.node.ensures.shows);
    }

pub loop-node-init : goal.loop-node-init
loop-node-init c = record { room = c.told-states; shown = λ j none. absurd (omega (arith, none)) }
