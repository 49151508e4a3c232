use Rattle.std.proofs.Common.{ℕ, ◌++◌, List, ap, sym, ◌∙◌}
use Rattle.ttp_base.proofs.Below.{flat_map-next}
use Rattle.ttp_world.specs.declared.script.Event.{Event}
use Rattle.campaign.specs.Tried.{faults_of}
use Rattle.single_faults.proofs.tried.faults_in.Goals as goal

pub loop-node-preserved : goal.loop-node-preserved
loop-node-preserved c =
    let tried : ℕ → List Event = faults_of c.args.list.now c.args.script.now c.args.row.now c.args.slot in
    c.in_ok-push_faults.ensures
    ∙ ap (λ (all : List Event). all ++ tried c.loop-node.node) c.loop-node.invariant
    ∙ sym (flat_map-next tried c.loop-node.node)
