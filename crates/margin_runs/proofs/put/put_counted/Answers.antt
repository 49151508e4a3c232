use Rattle.std.proofs.Common.{◌≡◌, ℕ, ◌+◌, ◌*◌, ◌^◌, subst, arith}
use Rattle.margin_text.specs.Taken.{IsFewOf}
use Rattle.margin_runs.specs.Written.{most_values, most_in_sweep}
use Rattle.margin_runs.proofs.Puts.{counts-more}
use Rattle.margin_runs.proofs.Sweeping.{swept-next, swept-left}
use Rattle.margin_runs.proofs.put.put_counted.Goals as goal

pub with_margin-requires-clause-margin : goal.with_margin-requires-clause-margin
with_margin-requires-clause-margin g c =
    counts-more most_values (2 ^ 59) c.in-Ok.margin.counts (omega arith) c.in-Ok.ensures.few

pub returns-in-Ok-clause-few : goal.returns-in-Ok-clause-few
returns-in-Ok-clause-few g c = λ most few.
    let same : most + 3 * most_values + 1 ≡ most + most_in_sweep = omega arith in
    subst (λ (n : ℕ). IsFewOf n c.with_margin.result) same
    (c.with_margin.ensures.few most most_values few c.in-Ok.ensures.few)

pub returns-in-Ok-clause-ok : goal.returns-in-Ok-clause-ok
returns-in-Ok-clause-ok g c = λ start swept are.
    let common = c.args.common.now in
    swept-next common start (g.K.Sink.output c.args.out.now)
    (g.K.Sink.output c.put_sweep.new.out) swept c.args.sweep c.in-Ok.margin c.args.total.now c.with_margin.result are
    c.in-Ok.ensures.ok c.in-Ok.ensures.margin c.with_margin.ensures.total

pub returns-in-Err-clause-err : goal.returns-in-Err-clause-err
returns-in-Err-clause-err g c = λ start swept are.
    let common = c.args.common.now in
    swept-left common c.in-Err.why start (g.K.Sink.output c.args.out.now)
    (g.K.Sink.output c.put_sweep.new.out) swept c.args.sweep c.args.total.now are c.in-Err.ensures.err
