use Rattle.std.proofs.Common.{sym, subst}
use Rattle.whole_trace.specs.declared.due.Due.{Due}
use Rattle.whole_trace.specs.declared.due.Due.TheVariants as due
use Rattle.whole_trace.specs.declared.shown.NodeShown.{NodeShown}
use Rattle.whole_trace.specs.Steps.{IsNodeStep}
use Rattle.whole_trace.proofs.NodeSteps.{node-stands}
use Rattle.whole_trace.proofs.place.behind_node.Goals as goal

pub returns : goal.returns
returns c =
    let text = c.args.rest.now in
    let rest = c.cut_line.result.1.now in
    let at = due.Node c.args.head c.args.slot c.args.node in
    subst (λ (then : Due). (shown : NodeShown) × IsNodeStep at text shown then rest) (sym c.next_node.ensures)
    (node-stands c.args.head c.args.slot c.args.node text c.cut_line.result.0.now rest c.cut_line.ensures.first
    c.cut_line.ensures.others c.requires)
