use Rattle.std.proofs.Common.{[], subst, ℕ}
use Rattle.pair_classes.specs.Summed.{AreSumsOf}
use Rattle.pair_runs.specs.Counted.{HasFewPairs}
use Rattle.pair_runs.proofs.Wholes.{none-written}
use Rattle.pair_runs.proofs.put.put_all.Goals as goal

pub put_lines-requires-clause-few : goal.put_lines-requires-clause-few
put_lines-requires-clause-few g c κs within =
    (subst (λ (n : ℕ). HasFewPairs n 0 c.in-Ok-new-2.tally) c.distances_of.ensures c.in-Ok-new-2.ensures.few).sums

pub put_lines-requires-clause-none : goal.put_lines-requires-clause-none
put_lines-requires-clause-none g c κs within =
    subst (λ (n : ℕ). AreSumsOf n [] c.in-Ok-new-2.tally.sums) c.distances_of.ensures c.in-Ok-new-2.ensures.none

pub returns-in_default-clause-err : goal.returns-in_default-clause-err
returns-in_default-clause-err g c =
    let common = c.args.common.now in
    none-written common.list.now common.script.now common.first common.last
    common.within (g.K.Sink.output c.args.out.now)

pub returns-in_default-new-clause-err : goal.returns-in_default-new-clause-err
returns-in_default-new-clause-err g c =
    let common = c.args.common.now in
    none-written common.list.now common.script.now common.first common.last
    common.within (g.K.Sink.output c.args.out.now)

pub returns-in_default-new_work-clause-err : goal.returns-in_default-new_work-clause-err
returns-in_default-new_work-clause-err g c =
    let common = c.args.common.now in
    none-written common.list.now common.script.now common.first common.last
    common.within (g.K.Sink.output c.args.out.now)

pub returns-in_default-new-2-clause-err : goal.returns-in_default-new-2-clause-err
returns-in_default-new-2-clause-err g c =
    let common = c.args.common.now in
    none-written common.list.now common.script.now common.first common.last
    common.within (g.K.Sink.output c.args.out.now)
