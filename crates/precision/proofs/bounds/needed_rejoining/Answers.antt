use Rattle.std.proofs.Common.{sym, subst, rules, ◌≤ℤ◌}
use Rattle.ttp_world.specs.Returning.{needed_back}
use Rattle.precision.specs.Company.{HoldsCompanyDeviationsWithin}
use Rattle.precision.proofs.Limits.{needed_window}
use Rattle.precision.proofs.Runs.{company_deviations}
use Rattle.precision.proofs.bounds.needed_rejoining.Goals as goal

pub returns-clause-value : goal.returns-clause-value
returns-clause-value c = search rules

pub returns-clause-deviations : goal.returns-clause-deviations
returns-clause-deviations c =
    subst (HoldsCompanyDeviationsWithin c.args.list.now) (sym (returns-clause-value c))
    (company_deviations c.args.list.now c.requires)

pub returns-clause-window : goal.returns-clause-window
returns-clause-window c =
    subst (λ w. w ≤ℤ needed_back c.args.list.now) (sym (returns-clause-value c))
    (needed_window c.args.list.now c.requires)
