use Rattle.std.proofs.Common.{sym, subst, rules}
use Rattle.precision.specs.Together.{HoldsDeviationsWithin}
use Rattle.precision.specs.Company.{HoldsSettledDeviationsWithin}
use Rattle.precision.proofs.Runs.{deviations_within, settled_deviations}
use Rattle.precision.proofs.bounds.needed.Goals as goal

pub returns-clause-value : goal.returns-clause-value
returns-clause-value c = search rules

pub returns-clause-deviations : goal.returns-clause-deviations
returns-clause-deviations c =
    subst (HoldsDeviationsWithin c.args.list.now) (sym (returns-clause-value c))
    (deviations_within c.args.list.now c.requires)

pub returns-clause-settled : goal.returns-clause-settled
returns-clause-settled c =
    subst (HoldsSettledDeviationsWithin c.args.list.now) (sym (returns-clause-value c))
    (settled_deviations c.args.list.now c.requires)
