use Rattle.std.proofs.Common.{◌+◌, ◌≤◌, length, arith}
use Rattle.std.proofs.lemmas.List.{take_rest, length-drop}
use Rattle.ttp_base.proofs.Known.{front_of_rest}
use Rattle.ttp_base.proofs.Told.{no_fault-join, fault-join}
use Rattle.ttp_base.proofs.streams.write_rest.Goals as goal

pub loop-done-preserved : goal.loop-done-preserved
loop-done-preserved g c =
    let rest = c.args.rest.now in
    let done = c.loop-done.done in
    let count = c.in-Ok.count in
    let within = rw (take_rest rest done, length-drop done rest) at c.in-Ok.ensures.within in
    let more = rw (take_rest rest done) at c.in-Ok.ensures.ok in
    let total : done + count ≤ length rest = omega (arith, within, c.loop-done.invariant.0) in (
      total,
      front_of_rest _ _ _ rest done count c.loop-done.invariant.1 more,
      no_fault-join _ (g.T.Target.told c.loop-done.target) _ c.loop-done.invariant.2 c.in-Ok.ensures.quiet,
    )

pub returns-in-Err-clause-told : goal.returns-in-Err-clause-told
returns-in-Err-clause-told g c =
    fault-join _ (g.T.Target.told c.loop-done.target) _ c.in-Err.trouble c.loop-done.invariant.2 c.in-Err.ensures.told
