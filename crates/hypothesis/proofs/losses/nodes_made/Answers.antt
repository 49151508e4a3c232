use Rattle.hypothesis.proofs.Words.{◌<◌, ap, sym, subst, ◌∙◌, most_nodes, with_node, nodes_made, told_loss}
use Rattle.ttp_base.proofs.NodeLists.{with_node-nil}
use Rattle.hypothesis.specs.Standing.{IsOfNodes}
use Rattle.hypothesis.proofs.losses.nodes_made.Goals as goal

pub returns-in-Makes : goal.returns-in-Makes
returns-in-Makes c =
    let small : c.in-Makes.node < most_nodes = subst IsOfNodes c.in-Makes.is c.requires in
    c.with.ensures ∙ ap (λ s. with_node s c.in-Makes.node) c.empty.ensures ∙ with_node-nil c.in-Makes.node small
    ∙ sym (ap (λ loss. nodes_made (told_loss loss)) c.in-Makes.is)
