use Rattle.std.proofs.Common.{arith, length, ◌<◌, []}
use Rattle.std.proofs.lemmas.Result.{err_from_is_err_and}
use Rattle.ttp_base.proofs.Outputs.{CutShort-below, Wrote-none, WroteLines-below}
use Rattle.ttp_world.specs.Script.{drift_of}
use Rattle.script_lines.specs.ScriptLines.{drift_lines}
use Rattle.script_lines.proofs.put.put_all_drifts.Goals as goal

pub loop-node-init : goal.loop-node-init
loop-node-init g c = Wrote-none _

pub loop-node-preserved : goal.loop-node-preserved
loop-node-preserved g c =
    let script = c.args.script.now in
    WroteLines-below _ _ _ [] (λ k. drift_lines k (drift_of script k)) c.loop-node.node
    c.loop-node.invariant c.in_ok-put_drift.ensures.ok

pub returns-in_err-put_drift-clause-failed : goal.returns-in_err-put_drift-clause-failed
returns-in_err-put_drift-clause-failed g c =
    let failed = err_from_is_err_and c.from_residual.result c.from_residual.ensures.1 in
    let script = c.args.script.now in
    let node = c.loop-node.node in
    let less : node < length script.drift = omega arith in
    rw failed.1 (CutShort-below _ _ _ [] (λ k. drift_lines k (drift_of script k)) node (length script.drift) less
    c.loop-node.invariant c.in_err-put_drift.ensures.failed)
