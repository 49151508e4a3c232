use Rattle.std.proofs.Common.{rules, ℤ, w64, SFits, sym, subst}
use Rattle.std.proofs.lemmas.Int.{to_z-of_z}
use Rattle.line_reader.specs.declared.trace_line.TraceLine.{TraceLine}
use Rattle.whole_trace.specs.Steps.{IsLineStep, IsNodeStep}
use Rattle.whole_trace.proofs.NodeSteps.{node-step}
use Rattle.whole_trace.proofs.slots.next_node.Goals as goal

pub returns-in-Node-clause-some : goal.returns-in-Node-clause-some
returns-in-Node-clause-some c =
    let n = c.in-Node in
    let at = c.args.at in
    let behind = c.in_ok-line.field-0.behind in
    let fits : SFits w64 n.offset = search rules in
    let step = subst (λ (v : TraceLine). IsLineStep at.due at.rest.now v behind.due behind.rest.now) n.is
    c.in_ok-line.ensures.some in
    subst (λ (z : ℤ). IsNodeStep at.due at.rest.now (record {
      word = n.word;
      peer = n.peer;
      message = n.message;
      members = n.members;
      accepted = n.accepted;
      rejected = n.rejected;
      ack = n.ack;
      offset = z;
    }) behind.due behind.rest.now) (sym (to_z-of_z w64 n.offset fits))
    (node-step at.due behind.due at.rest.now behind.rest.now n.slot n.node n.word
    n.peer n.message n.wide n.members n.accepted
    n.rejected n.ack n.offset step)
