use Rattle.std.proofs.Common.{◌≡◌, ◌+◌, ◌*◌, List, sym, subst, ◌∙◌, arith}
use Rattle.clock_margins.specs.Outcomes.{ValueTold}
use Rattle.fault_runs.specs.Ends.{LeftBy}
use Rattle.margin_runs.specs.Written.{IsPutOf, closed_lines, tolds_so_far}
use Rattle.margin_runs.proofs.Puts.{left-more, closed-left}
use Rattle.margin_runs.proofs.ToldParts.{so-far-all, so-far-rest}
use Rattle.margin_runs.proofs.put.put_ranges.Goals as goal

pub put_values-requires-clause-put : goal.put_values-requires-clause-put
put_values-requires-clause-put g c κs within =
    (c.requires.put.0, c.loop-done.invariant.put c.requires.put.0 c.requires.put.1)

pub returns-in-Err-clause-err : goal.returns-in-Err-clause-err
returns-in-Err-clause-err g c = λ start put.
    let common = c.args.common.now in
    let list = common.list.now in
    let script = common.script.now in
    let sweep = c.args.sweep in
    let reach = common.reach in
    let why = c.in-Err.why in
    let now = g.K.Sink.output c.put_values.new.out in
    let done = c.loop-done.done + c.min-some.result in
    let rest = so-far-rest common c.args.sweep done (2 * reach + 1) (omega arith) in
    closed-left list script reach sweep why start now
    (subst (λ (xs : List ValueTold). LeftBy why start now (closed_lines list sweep xs))
    (sym rest.1 ∙ so-far-all common c.args.sweep (2 * reach + 1) (omega arith))
    (left-more list sweep why start now (tolds_so_far common c.args.sweep done) rest.0
    (c.in-Err.ensures.err start (c.loop-done.invariant.put start put))))

pub returns-clause-ok : goal.returns-clause-ok
returns-clause-ok g c = λ start put.
    let common = c.args.common.now in
    let reach = common.reach in
    let all : c.loop-done.done ≡ 2 * reach + 1 = omega (arith, c.loop-done-test.false, c.loop-done.invariant.within) in
    subst
    (λ (xs : List ValueTold).
    IsPutOf start (g.K.Sink.output c.loop-done.out) common.list.now c.args.sweep xs c.loop-done.swept)
    (so-far-all common c.args.sweep c.loop-done.done all) (c.loop-done.invariant.put start put)
