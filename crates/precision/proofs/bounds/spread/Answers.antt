use Rattle.std.proofs.Common.{sym, subst, rules}
use Rattle.precision.specs.Together.{HoldsClocksWithin}
use Rattle.precision.specs.Company.{HoldsSettledClocksWithin}
use Rattle.precision.proofs.Runs.{clocks_within, settled_clocks}
use Rattle.precision.proofs.bounds.spread.Goals as goal

pub returns-clause-value : goal.returns-clause-value
returns-clause-value c = search rules

pub returns-clause-clocks : goal.returns-clause-clocks
returns-clause-clocks c =
    subst (HoldsClocksWithin c.args.list.now) (sym (returns-clause-value c)) (clocks_within c.args.list.now c.requires)

pub returns-clause-settled : goal.returns-clause-settled
returns-clause-settled c =
    subst (HoldsSettledClocksWithin c.args.list.now) (sym (returns-clause-value c))
    (settled_clocks c.args.list.now c.requires)
