use Rattle.std.proofs.Common.{sym, subst, ◌∙◌}
use Rattle.std.proofs.lemmas.Bool.{not-true}
use Rattle.ttp_base.specs.Text.{lines_of}
use Rattle.whole_trace.specs.declared.due.Due.{Due}
use Rattle.whole_trace.specs.Steps.{GoesOn}
use Rattle.whole_trace.proofs.HostFronts.{no_hosts}
use Rattle.whole_trace.proofs.slots.is_past_hosts.Goals as goal

pub returns-in-Host : goal.returns-in-Host
returns-in-Host c = λ other on.
    let text = c.args.at.now.rest.now in
    let here = c.in-Host in
    no_hosts here.head here.slot here.has_read text (subst (λ (d : Due). GoesOn d (lines_of text)) here.is on)
    (sym c.may_be_host.ensures ∙ not-true c.may_be_host.result other)
