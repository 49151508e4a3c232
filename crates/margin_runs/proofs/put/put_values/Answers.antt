use Rattle.std.proofs.Common.{◌≡◌, ℕ, ◌+◌, ℤ, pos, ◌+ℤ◌, List, ◌++◌, map, length, ap, sym, subst, ◌∙◌, arith}
use Rattle.std.specs.Prelude.{neg_ℤ, All, OnOk, IfErr}
use Rattle.ttp_world.specs.Events.{IsWithinSpan}
use Rattle.clock_margins.specs.declared.margin.Sweep.{Sweep}
use Rattle.clock_margins.specs.Outcomes.{ValueTold, told_of_value}
use Rattle.clock_margins.specs.Sweeps.{values_from}
use Rattle.fault_runs.specs.declared.put.CampaignFault.{CampaignFault}
use Rattle.fault_runs.specs.declared.put.CampaignFault.TheVariants as fault
use Rattle.fault_runs.specs.Ends.{LeftBy}
use Rattle.margin_text.specs.declared.told.Told.{Told}
use Rattle.margin_runs.specs.declared.tried.SweepSetting.{SweepSetting}
use Rattle.margin_runs.specs.Tries.{tolds_from, are_told, clock_limit}
use Rattle.margin_runs.specs.Written.{IsPutOf, AreWritable, closed_lines, tolds_so_far}
use Rattle.margin_runs.proofs.Puts.{none-left}
use Rattle.margin_runs.proofs.ToldParts.{so-far-more, tolds-count}
use Rattle.margin_runs.proofs.Within.{limit-few, some-within}
use Rattle.margin_runs.proofs.Writable.{tolds-writable}
use Rattle.margin_runs.proofs.put.put_values.Goals as goal

-- those that were told, behind the others
whole : (common : SweepSetting) (sweep : Sweep) (done some : ℕ) (values : List ℤ) (all : List Told)
    → values ≡ values_from (neg_ℤ (pos common.reach) +ℤ pos done) some
    → are_told all ≡ map (told_of_value common.list.now common.script.now sweep) values
    → tolds_so_far common sweep done ++ are_told all ≡ tolds_so_far common sweep (done + some)
whole common sweep done some values all are told =
    let each = told_of_value common.list.now common.script.now sweep in
    ap (λ (xs : List ValueTold). tolds_so_far common sweep done ++ xs) (told ∙ ap (map each) are)
    ∙ so-far-more common sweep done some

pub some_values-requires-clause-reach : goal.some_values-requires-clause-reach
some_values-requires-clause-reach g c =
    let may = c.requires.may in
    omega (arith, limit-few c.args.sweep.slot, may.reach)

pub try_beside-requires-clause-values : goal.try_beside-requires-clause-values
try_beside-requires-clause-values g c κs within =
    let most = clock_limit c.args.sweep.slot in
    subst (All (IsWithinSpan most)) (sym (c.as_slice-values.ensures.value ∙ c.in-Ok.ensures))
    (some-within most c.args.common.now.reach c.args.done c.args.some c.requires.may.reach c.requires.count)

pub put_tolds-requires-clause-put : goal.put_tolds-requires-clause-put
put_tolds-requires-clause-put g c =
    let may = c.requires.may in
    let common = c.args.common.now in
    let list = common.list.now in
    let script = common.script.now in
    let sweep = c.args.sweep in
    let before = tolds_so_far common c.args.sweep c.args.done in
    let all = whole common c.args.sweep c.args.done c.args.some c.as_slice-values.result.now
    c.in-Ok-try_beside.all.items (c.as_slice-values.ensures.value ∙ c.in-Ok.ensures)
    c.in-Ok-try_beside.ensures in
    let count = ap length all ∙ tolds-count list script sweep (neg_ℤ (pos common.reach)) (c.args.done + c.args.some) in
    let few = limit-few sweep.slot in (
      c.requires.put.0,
      before,
      c.requires.put.1,
      subst AreWritable (sym all)
          (tolds-writable list script sweep
          (values_from (neg_ℤ (pos common.reach)) (c.args.done + c.args.some)) may.valid),
      omega (arith, count, few, may.reach, c.requires.count),
    )

pub returns-in_default-clause-err : goal.returns-in_default-clause-err
returns-in_default-clause-err g c = λ start put.
    let common = c.args.common.now in
    let list = common.list.now in
    let sweep = c.args.sweep in
    let out = g.K.Sink.output c.args.out.now in
    let more = tolds_from list common.script.now sweep (neg_ℤ (pos common.reach) +ℤ pos c.args.done) c.args.some in
    subst (λ (xs : List ValueTold). LeftBy fault.Memory start out (closed_lines list sweep xs))
    (so-far-more common sweep c.args.done c.args.some)
    (none-left list sweep start out (tolds_so_far common sweep c.args.done) more put.wrote)

pub returns-in_default-try_beside-clause-err : goal.returns-in_default-try_beside-clause-err
returns-in_default-try_beside-clause-err g c = λ start put.
    let common = c.args.common.now in
    let list = common.list.now in
    let sweep = c.args.sweep in
    let out = g.K.Sink.output c.args.out.now in
    let more = tolds_from list common.script.now sweep (neg_ℤ (pos common.reach) +ℤ pos c.args.done) c.args.some in
    subst (λ (xs : List ValueTold). LeftBy fault.Memory start out (closed_lines list sweep xs))
    (so-far-more common sweep c.args.done c.args.some)
    (none-left list sweep start out (tolds_so_far common sweep c.args.done) more put.wrote)

pub returns-clause-ok : goal.returns-clause-ok
returns-clause-ok g c = λ start put.
    let common = c.args.common.now in
    let before = tolds_so_far common c.args.sweep c.args.done in
    let all = whole common c.args.sweep c.args.done c.args.some c.as_slice-values.result.now
    c.in-Ok-try_beside.all.items (c.as_slice-values.ensures.value ∙ c.in-Ok.ensures)
    c.in-Ok-try_beside.ensures in
    subst
    (λ (xs : List ValueTold). OnOk c.put_tolds.result
    (IsPutOf start (g.K.Sink.output c.put_tolds.new.out) common.list.now c.args.sweep xs c.put_tolds.new.swept))
    all (c.put_tolds.ensures.ok start before put)

pub returns-clause-err : goal.returns-clause-err
returns-clause-err g c = λ start put.
    let common = c.args.common.now in
    let before = tolds_so_far common c.args.sweep c.args.done in
    let all = whole common c.args.sweep c.args.done c.args.some c.as_slice-values.result.now
    c.in-Ok-try_beside.all.items (c.as_slice-values.ensures.value ∙ c.in-Ok.ensures)
    c.in-Ok-try_beside.ensures in
    subst
    (λ (xs : List ValueTold). IfErr c.put_tolds.result
    (λ (why : CampaignFault). LeftBy why start (g.K.Sink.output c.put_tolds.new.out)
    (closed_lines common.list.now c.args.sweep xs)))
    all (c.put_tolds.ensures.err start before put)
