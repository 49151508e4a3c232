use Rattle.std.proofs.Common.{rules, ℤ, w64, SFits, sym, subst, ◌∙◌}
use Rattle.std.proofs.lemmas.Int.{to_z-of_z}
use Rattle.whole_trace.specs.declared.due.Due.TheVariants as due
use Rattle.whole_trace.specs.Alike.{said_by}
use Rattle.whole_trace.specs.Steps.{IsNodeStep}
use Rattle.whole_trace.proofs.NodeSteps.{due-step, node-step}
use Rattle.whole_trace.proofs.place.due_node.Goals as goal

pub returns-clause-step : goal.returns-clause-step
returns-clause-step c =
    let found = c.in-Some in
    let v = said_by found.value in (
      v,
      due-step c.args.head c.args.slot c.args.node c.args.rest.now
          found.ensures.line found.behind.now v c.next_node.result
          found.ensures.cut found.ensures.value
          (sym c.is_due_node.ensures ∙ c.if-not-is_due_node.false) c.next_node.ensures,
    )

pub returns-clause-node : goal.returns-clause-node
returns-clause-node c =
    let found = c.in-Some in
    let n = found.value in
    let at = due.Node c.args.head c.args.slot c.args.node in
    let text = c.args.rest.now in
    let rest = found.behind.now in
    let then = c.next_node.result in
    let step = due-step c.args.head c.args.slot c.args.node text
    found.ensures.line rest (said_by n) then found.ensures.cut
    found.ensures.value (sym c.is_due_node.ensures ∙ c.if-not-is_due_node.false) c.next_node.ensures in
    let fits : SFits w64 n.offset = search rules in
    subst (λ (z : ℤ). IsNodeStep at text (record {
      word = n.word;
      peer = n.peer;
      message = n.message;
      members = n.members;
      accepted = n.accepted;
      rejected = n.rejected;
      ack = n.ack;
      offset = z;
    }) then rest) (sym (to_z-of_z w64 n.offset fits))
    (node-step at then text rest n.slot n.node n.word n.peer n.message n.wide
    n.members n.accepted n.rejected n.ack n.offset
    step)
