use Rattle.std.proofs.Common.{◌≡◌, ℕ, ◌<◌, Bool, true, false, ap, ◌∙◌, rules}
use Rattle.ttp_base.proofs.NodeLists.{with_node-next, filter-next}
use Rattle.ttp_base.specs.NodeSet.{most_nodes, with_node}
use Rattle.broken_rules.specs.Start.{is_late}
use Rattle.broken_rules.proofs.start.late_nodes.Goals as goal
use Rattle.broken_rules.proofs.start.late_nodes.Goals.{then-is_ever_on+then-not-is_on, else-is_ever_on}
use Rattle.broken_rules.proofs.start.late_nodes.Goals.{else-is_ever_on-via-then-is_ever_on+else-not-is_on}
use Rattle.broken_rules.proofs.start.late_nodes.Goals.{else-is_ever_on-via-else-is_ever_on}

pub loop-node-preserved : goal.loop-node-preserved
loop-node-preserved c =
    let late : ℕ → Bool = is_late c.args.script.now c.args.slot in
    let node = c.loop-node.node in
    let small : node < most_nodes = search rules in
    elim c.if-is_ever_on.branch [
      | then-is_ever_on+then-not-is_on w ↦
          let is : late node ≡ true = search rules in
          w.late-is ∙ w.with-late.ensures ∙ ap (λ s. with_node s node) c.loop-node.invariant
          ∙ with_node-next late node small is
      | else-is_ever_on w ↦
          let is : late node ≡ false =
          elim w.else-is_ever_on.branch [
            | else-is_ever_on-via-then-is_ever_on+else-not-is_on w' ↦ search rules
            | else-is_ever_on-via-else-is_ever_on w' ↦ search rules
          ] in
          w.late-is ∙ c.loop-node.invariant ∙ filter-next late node small is
    ]
