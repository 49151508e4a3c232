use Rattle.std.proofs.Common.{◌+◌, subst, ◌∙◌, arith}
use Rattle.ttp_base.specs.Text.{lines_of}
use Rattle.whole_trace.specs.declared.due.Due.{Due}
use Rattle.whole_trace.specs.Steps.{IsInSlot}
use Rattle.whole_trace.proofs.NodeSteps.{are-hosts, hosts-follow, passed}
use Rattle.whole_trace.proofs.slots.behind_nodes.Goals as goal

pub loop-at-preserved : goal.loop-at-preserved
loop-at-preserved c =
    let at = c.loop-at.at in
    let known = c.loop-at.invariant in
    let node = c.in-Node in
    let step = c.behind_node-at.ensures in
    let next = c.behind_node-at.result in
    let here = subst (λ (d : Due). IsInSlot known.place.0 d (lines_of at.rest.now)) node.is known.place.2 in
    let more = passed node.head node.slot node.node known.place.0 at.rest.now
    next.rest.now step.0 next.due known.place.1 here
    step.1 in record {
      hosts = known.hosts ∙ more.hosts;
      others = known.others ∙ more.others;
      place = (known.place.0 + 1, omega arith, more.place);
    }

pub returns-clause-place : goal.returns-clause-place
returns-clause-place c =
    let at = c.loop-at.at in
    let place = c.loop-at.invariant.place in
    are-hosts at.due place.0 (lines_of at.rest.now) c.in_default.not-Node place.2

pub returns-clause-between : goal.returns-clause-between
returns-clause-between c =
    let at = c.loop-at.at in
    let place = c.loop-at.invariant.place in
    hosts-follow at.due place.0 (lines_of at.rest.now) c.in_default.not-Node place.2
