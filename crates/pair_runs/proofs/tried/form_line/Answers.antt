use Rattle.std.proofs.Common.{◌++◌, ◌∙◌, List, ℕ, ap, refl}
use Rattle.campaign.specs.declared.cost.Cost.{Cost}
use Rattle.pair_runs.proofs.FromBelow.{cost-ordered}
use Rattle.fault_runs.specs.Told.{told_summary}
use Rattle.fault_pairs.specs.Pairs.{second_apart}
use Rattle.fault_pairs.specs.PairText.{pair_line}
use Rattle.pair_runs.specs.Tries.{first_of}
use Rattle.pair_runs.proofs.tried.form_line.Goals as goal

pub put_pair-requires-clause-hurt : goal.put_pair-requires-clause-hurt
put_pair-requires-clause-hurt c =
    cost-ordered c.args.setting.now.common.list.now c.args.both.now c.args.cost.now
    c.requires.may.may.valid c.requires.cost

pub returns : goal.returns
returns c =
    let list = c.args.setting.now.common.list.now in
    let line = λ (cost : Cost). pair_line list c.args.class (first_of c.args.setting.now)
    (second_apart c.args.apart c.args.two.now) c.args.setting.now.common.own c.args.harms.now.one c.args.harms.now.two
    (told_summary list c.args.both.now cost) in
    c.in_ok-put_pair.ensures (first_of c.args.setting.now) refl refl
    ∙ ap (λ (old : List ℕ). old ++ line c.args.cost.now) c.new-line.ensures
    ∙ ap line c.requires.cost
