use Rattle.controller.proofs.Words.{◌≤◌, ◌^◌, ℤ, w64, FitsSigned, ap, sym, subst, ◌∙◌, rules, arith, unsigned_abs}
use Rattle.controller.proofs.Words.{to_z-of_z, Medl}
use Rattle.ttp_world.specs.World.{node_past}
use Rattle.ttp_world.specs.ZerosWorld.{zeros_world}
use Rattle.ttp_world.specs.declared.node.NodeState.{NodeState}
use Rattle.ttp_world.proofs.ZerosWorlds.{length-zeros_world}
use Rattle.controller.proofs.zeros_run.ZerosRun.clock.Goals as goal

pub returns-clause-shows : goal.returns-clause-shows
returns-clause-shows c = λ script slots stands.
    let history = zeros_world c.args.list.now script slots in
    let fits : FitsSigned w64 c.node.result.offset = search rules in
    to_z-of_z w64 c.node.result.offset fits
    ∙ ap (λ (state : NodeState). state.offset) (c.node.ensures.shows script history stands.plant)
    ∙ ap (λ (l : Medl). (node_past l script history c.args.node).offset) stands.same

pub returns-clause-near : goal.returns-clause-near
returns-clause-near c = λ script slots stands few.
    let fits : FitsSigned w64 c.node.result.offset = search rules in
    subst (λ (z : ℤ). unsigned_abs z ≤ 2 ^ 53) (sym (to_z-of_z w64 c.node.result.offset fits))
    (omega (arith, c.node.ensures.near, stands.plant.slot, length-zeros_world c.args.list.now script slots, few))
