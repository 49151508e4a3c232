use Rattle.two_faced.proofs.Words.{◌*◌, ◌≤◌, length, sym, subst, rules, arith}
use Rattle.ttp_world.specs.Medl.{IsWithin}
use Rattle.two_faced.proofs.FromBelow.{share_limits}
use Rattle.two_faced.proofs.bounds.drift_part.Goals as goal

pub returns-clause-value : goal.returns-clause-value
returns-clause-value c = search rules

pub returns-clause-within : goal.returns-clause-within
returns-clause-within c =
    let few : length c.args.list.now.slots ≤ 24 = search rules in
    subst (IsWithin 0 288000) (sym (returns-clause-value c))
    (share_limits c.args.list.now.drift (12 * length c.args.list.now.slots) 288 c.requires.drift (omega (arith, few)))
