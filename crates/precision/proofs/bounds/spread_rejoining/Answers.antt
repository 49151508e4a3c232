use Rattle.std.proofs.Common.{sym, subst, rules}
use Rattle.precision.specs.Company.{HoldsCompanyClocksWithin}
use Rattle.precision.proofs.Runs.{company_clocks}
use Rattle.precision.proofs.bounds.spread_rejoining.Goals as goal

pub returns-clause-value : goal.returns-clause-value
returns-clause-value c = search rules

pub returns-clause-clocks : goal.returns-clause-clocks
returns-clause-clocks c =
    subst (HoldsCompanyClocksWithin c.args.list.now) (sym (returns-clause-value c))
    (company_clocks c.args.list.now c.requires)
