use Rattle.std.proofs.Common.{◌≡◌, ◌∙◌, List, length, refl, sym, subst, arith}
use Rattle.mode_change.specs.declared.node.NodeModes.{NodeModes}
use Rattle.mode_change.proofs.Nodes.{AreNew, new-more}
use Rattle.mode_change.proofs.all_nodes.new_nodes.Goals as goal

pub loop-init : goal.loop-init
loop-init c = rw c.new-nodes.ensures
    (record { count = refl; each = λ script k node less is. absurd (omega (arith, less)) })

pub loop-preserved : goal.loop-preserved
loop-preserved c =
    let new = c.new_node.ensures in
    rw c.in_ok-push.ensures.ok (new-more c.loop.nodes c.args.list.now c.loop.counter c.new_node.result c.loop.invariant
    new.clock new.modes new.live)

pub returns : goal.returns
returns c = λ script.
    let all : c.loop.counter ≡ length c.args.list.now.slots = omega arith in
    let are = subst (λ (nodes : List NodeModes). AreNew nodes c.args.list.now c.loop.counter) (sym c.into_vec.ensures)
    c.loop.invariant in
    record {
      count = are.count ∙ all;
      each = λ k node less is. are.each script k node (omega (arith, less, all)) is;
    }
