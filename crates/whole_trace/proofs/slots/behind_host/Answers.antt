use Rattle.std.proofs.Common.{ap, inl, inr}
use Rattle.whole_trace.specs.Steps.{is_host_line}
use Rattle.whole_trace.proofs.NodeSteps.{host-step}
use Rattle.whole_trace.proofs.slots.behind_host.Goals as goal

pub returns-in-Write-clause-some : goal.returns-in-Write-clause-some
returns-in-Write-clause-some c =
    let behind = c.in_ok-line.field-0.behind in
    host-step c.args.at.due behind.due c.args.at.rest.now behind.rest.now c.in_ok-line.field-0.line
    c.in_ok-line.ensures.some
    (elim c.in-Write.is [ inl w ↦ ap is_host_line w.3 | inr r ↦ ap is_host_line r.5 ])
