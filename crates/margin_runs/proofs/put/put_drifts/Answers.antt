use Rattle.std.proofs.Common.{◌≡◌, ℕ, ◌+◌, ◌*◌, ◌<◌, ◌^◌, List, ◌++◌, length, ap, sym, subst, ◌∙◌, append_assoc, arith}
use Rattle.std.specs.Prelude.{flat_map}
use Rattle.ttp_base.specs.NodeSet.{below}
use Rattle.ttp_base.proofs.Below.{flat_map-next, flat_map-split}
use Rattle.ttp_world.specs.Script.{is_ever_on}
use Rattle.ttp_world.proofs.Lists.{nodes-most}
use Rattle.clock_margins.specs.declared.margin.Sweep.{Sweep}
use Rattle.clock_margins.specs.Sweeps.{drift_sweep}
use Rattle.fault_runs.specs.Ends.{LeftBy}
use Rattle.margin_text.specs.Taken.{IsFewOf}
use Rattle.margin_runs.specs.Written.{AreSwept, lines_swept, drifts_of, all_drifts, most_in_sweep}
use Rattle.margin_runs.proofs.Sweeping.{total-more, more-left, picked}
use Rattle.margin_runs.proofs.put.put_drifts.Goals as goal

pub put_drift-requires-clause-few : goal.put_drift-requires-clause-few
put_drift-requires-clause-few g c κs within =
    let node = c.loop-node.node in
    let most = nodes-most c.args.common.now.list.now c.requires.may.valid in
    let nodes = c.nodes-node-end.ensures in
    total-more (node * most_in_sweep) (2 ^ 61) c.loop-node.total (omega (arith, c.loop-node-test.true, nodes, most))
    c.loop-node.invariant.few

pub loop-node-preserved : goal.loop-node-preserved
loop-node-preserved g c =
    let script = c.args.common.now.script.now in
    let node = c.loop-node.node in
    let count : node * most_in_sweep + most_in_sweep ≡ (node + 1) * most_in_sweep = omega arith in
    record {
      few =
          subst (λ (n : ℕ). IsFewOf n c.put_drift.new.total) count
          (c.in_default.ensures.few (node * most_in_sweep) c.loop-node.invariant.few);
      swept = λ begin none.
          subst
          (λ (xs : List Sweep). AreSwept begin
          (g.K.Sink.output c.put_drift.new.out) c.args.common.now xs
          c.put_drift.new.total)
          (sym (flat_map-next (drifts_of script) node))
          (c.in_default.ensures.ok begin (flat_map (drifts_of script) (below node))
          (c.loop-node.invariant.swept begin none));
    }

pub returns-in-Err-clause-err : goal.returns-in-Err-clause-err
returns-in-Err-clause-err g c = λ begin none.
    let list = c.args.common.now.list.now in
    let script = c.args.common.now.script.now in
    let node = c.loop-node.node in
    let why = c.in-Err.why in
    let now = g.K.Sink.output c.put_drift.new.out in
    let before = flat_map (drifts_of script) (below node) in
    let here = drifts_of script node in
    let inside : node < length list.slots = omega (arith, c.loop-node-test.true, c.nodes-node-end.ensures) in
    let split = flat_map-split (drifts_of script) node (length list.slots) inside in
    let all : (before ++ here) ++ split.0 ≡ all_drifts list script =
    append_assoc before here split.0 ∙ sym split.1
    ∙ sym (picked drift_sweep (is_ever_on script) (below (length list.slots))) in
    subst (λ (xs : List Sweep). LeftBy why begin now (lines_swept c.args.common.now xs)) all
    (more-left c.args.common.now why begin now (before ++ here) split.0
    (c.in-Err.ensures.err begin before (c.loop-node.invariant.swept begin none)))

pub returns-clause-ok : goal.returns-clause-ok
returns-clause-ok g c = λ begin none.
    let list = c.args.common.now.list.now in
    let script = c.args.common.now.script.now in
    let last : c.loop-node.node ≡ length list.slots =
    omega (arith, c.loop-node-test.false, c.loop-node.auto.node-end, c.nodes-node-end.ensures) in
    let all : flat_map (drifts_of script) (below c.loop-node.node) ≡ all_drifts list script =
    ap (λ (n : ℕ). flat_map (drifts_of script) (below n)) last
    ∙ sym (picked drift_sweep (is_ever_on script) (below (length list.slots))) in
    subst
    (λ (xs : List Sweep). AreSwept begin (g.K.Sink.output c.loop-node.out) c.args.common.now xs c.loop-node.total) all
    (c.loop-node.invariant.swept begin none)
