use Rattle.std.proofs.Common.{sym, subst, rules}
use Rattle.ttp_world.specs.Medl.{IsWithin}
use Rattle.precision.proofs.Limits.{rejoining_limits}
use Rattle.precision.proofs.bounds.rejoining_share.Goals as goal

pub returns-clause-value : goal.returns-clause-value
returns-clause-value c = search rules

pub returns-clause-within : goal.returns-clause-within
returns-clause-within c =
    subst (IsWithin 0 144000) (sym (returns-clause-value c)) (rejoining_limits c.args.list.now c.requires)
