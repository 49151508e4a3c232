use Rattle.fault_runs.proofs.Words.{◌++◌, List, ℕ, ap, ◌∙◌}
use Rattle.campaign.specs.Lines.{fault_line}
use Rattle.fault_runs.specs.Told.{told_summary}
use Rattle.fault_runs.proofs.tried.line_of.Goals as goal

pub returns-clause-line : goal.returns-clause-line
returns-clause-line c cost is =
    c.in_ok-yes.ensures.line cost is
    ∙ ap (λ (old : List ℕ). old ++ fault_line c.args.list.now c.args.fault.now
    (told_summary c.args.list.now c.args.more.now cost)) c.new-line.ensures
