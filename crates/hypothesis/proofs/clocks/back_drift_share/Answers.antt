use Rattle.hypothesis.proofs.Words.{◌*◌, ◌≤◌, length, sym, subst, rules, arith}
use Rattle.ttp_world.specs.Medl.{IsWithin}
use Rattle.precision.proofs.ForAbove.{share_limits}
use Rattle.hypothesis.proofs.clocks.back_drift_share.Goals as goal

pub returns-clause-value : goal.returns-clause-value
returns-clause-value c = search rules

pub returns-clause-within : goal.returns-clause-within
returns-clause-within c =
    let few : length c.args.list.now.slots ≤ 24 = search rules in
    subst (IsWithin 0 192000) (sym (returns-clause-value c))
    (share_limits c.args.list.now.drift (8 * length c.args.list.now.slots) 192 c.requires.drift (omega (arith, few)))
