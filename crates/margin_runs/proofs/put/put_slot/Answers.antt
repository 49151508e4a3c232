use Rattle.std.proofs.Common.{◌≡◌, ℕ, ◌+◌, ◌*◌, ◌<◌, ◌^◌, List, ◌++◌, length, ap}
use Rattle.std.proofs.Common.{sym, subst, ◌∙◌, append_assoc, append-nil, arith}
use Rattle.std.specs.Prelude.{flat_map}
use Rattle.ttp_base.specs.NodeSet.{below}
use Rattle.ttp_base.proofs.Below.{flat_map-next, flat_map-split}
use Rattle.ttp_world.proofs.Lists.{nodes-most}
use Rattle.clock_margins.specs.declared.margin.Sweep.{Sweep}
use Rattle.fault_runs.specs.Ends.{LeftBy}
use Rattle.margin_text.specs.Taken.{IsFewOf}
use Rattle.margin_runs.specs.Written.{AreSwept, lines_swept, jump_sweeps_of, jumps_in, most_in_sweep, most_in_slot}
use Rattle.margin_runs.proofs.Shown.{jumps_at, shown-jumps, jumps-whole}
use Rattle.margin_runs.proofs.Sweeping.{total-more, more-left}
use Rattle.margin_runs.proofs.put.put_slot.Goals as goal

pub loop-node-init : goal.loop-node-init
loop-node-init g c =
    let none : most_in_slot * c.args.slot ≡ most_in_slot * c.args.slot + 0 * most_in_sweep = omega arith in
    record {
      few = subst (λ (n : ℕ). IsFewOf n c.args.total.now) none c.requires.few;
      swept = λ begin swept are.
          subst
          (λ (xs : List Sweep). AreSwept begin (g.K.Sink.output c.args.out.now) c.args.common.now xs c.args.total.now)
          (sym (append-nil swept)) are;
    }

pub entry_in-entry-requires : goal.entry_in-entry-requires
entry_in-entry-requires g c = omega (arith, c.loop-node-test.true, c.nodes-node-end.ensures, c.requires.shown.count)

pub put_jump-requires-clause-few : goal.put_jump-requires-clause-few
put_jump-requires-clause-few g c κs within =
    let node = c.loop-node.node in
    let valid = c.requires.may.script in
    let most = nodes-most c.args.common.now.list.now c.requires.may.valid in
    total-more (most_in_slot * c.args.slot + node * most_in_sweep) (2 ^ 61) c.loop-node.total
    (omega (arith, c.loop-node-test.true, c.nodes-node-end.ensures, most, c.requires.slot, valid.slots.1))
    c.loop-node.invariant.few

pub loop-node-preserved : goal.loop-node-preserved
loop-node-preserved g c =
    let list = c.args.common.now.list.now in
    let script = c.args.common.now.script.now in
    let slot = c.args.slot in
    let node = c.loop-node.node in
    let before = flat_map (jumps_at list script slot) (below node) in
    let inside : node < length list.slots = omega (arith, c.loop-node-test.true, c.nodes-node-end.ensures) in
    let here : jump_sweeps_of slot node c.entry_in-entry.result.now ≡ jumps_at list script slot node =
    ap (jump_sweeps_of slot node) c.entry_in-entry.ensures
    ∙ shown-jumps list script slot c.args.states.now c.requires.slot c.requires.shown node inside in
    let count : most_in_slot * slot + node * most_in_sweep + most_in_sweep
    ≡ most_in_slot * slot + (node + 1) * most_in_sweep = omega arith in
    record {
      few =
          subst (λ (n : ℕ). IsFewOf n c.put_jump.new.total) count
          (c.in_default.ensures.few (most_in_slot * slot + node * most_in_sweep) c.loop-node.invariant.few);
      swept = λ begin swept are.
          subst
          (λ (xs : List Sweep). AreSwept begin (g.K.Sink.output c.put_jump.new.out) c.args.common.now xs
          c.put_jump.new.total)
          (append_assoc swept before (jump_sweeps_of slot node c.entry_in-entry.result.now)
          ∙ ap (λ (xs : List Sweep). swept ++ (before ++ xs)) here
          ∙ ap (λ (xs : List Sweep). swept ++ xs) (sym (flat_map-next (jumps_at list script slot) node)))
          (c.in_default.ensures.ok begin (swept ++ before) (c.loop-node.invariant.swept begin swept are));
    }

pub returns-in-Err-clause-err : goal.returns-in-Err-clause-err
returns-in-Err-clause-err g c = λ begin swept are.
    let list = c.args.common.now.list.now in
    let script = c.args.common.now.script.now in
    let slot = c.args.slot in
    let node = c.loop-node.node in
    let why = c.in-Err.why in
    let now = g.K.Sink.output c.put_jump.new.out in
    let before = flat_map (jumps_at list script slot) (below node) in
    let inside : node < length list.slots = omega (arith, c.loop-node-test.true, c.nodes-node-end.ensures) in
    let done = jump_sweeps_of slot node c.entry_in-entry.result.now in
    let here : done ≡ jumps_at list script slot node =
    ap (jump_sweeps_of slot node) c.entry_in-entry.ensures
    ∙ shown-jumps list script slot c.args.states.now c.requires.slot c.requires.shown node inside in
    let split = flat_map-split (jumps_at list script slot) node (length list.slots) inside in
    let all : ((swept ++ before) ++ done) ++ split.0 ≡ swept ++ jumps_in list script slot =
    ap (λ (xs : List Sweep). ((swept ++ before) ++ xs) ++ split.0) here
    ∙ append_assoc (swept ++ before) (jumps_at list script slot node) split.0
    ∙ append_assoc swept before (jumps_at list script slot node ++ split.0)
    ∙ ap (λ (xs : List Sweep). swept ++ xs) (sym split.1 ∙ sym (jumps-whole list script slot)) in
    subst (λ (xs : List Sweep). LeftBy why begin now (lines_swept c.args.common.now xs)) all
    (more-left c.args.common.now why begin now ((swept ++ before) ++ done) split.0
    (c.in-Err.ensures.err begin (swept ++ before) (c.loop-node.invariant.swept begin swept are)))

pub returns : goal.returns
returns g c =
    let list = c.args.common.now.list.now in
    let script = c.args.common.now.script.now in
    let slot = c.args.slot in
    let node = c.loop-node.node in
    let most = nodes-most list c.requires.may.valid in
    let last : node ≡ length list.slots =
    omega (arith, c.loop-node-test.false, c.loop-node.auto.node-end, c.nodes-node-end.ensures) in
    record {
      few =
          total-more (most_in_slot * slot + node * most_in_sweep) (most_in_slot * (slot + 1)) c.loop-node.total
          (omega (arith, last, most)) c.loop-node.invariant.few;
      ok = λ begin swept are.
          subst
          (λ (xs : List Sweep). AreSwept begin (g.K.Sink.output c.loop-node.out) c.args.common.now (swept ++ xs)
          c.loop-node.total)
          (ap (λ (n : ℕ). flat_map (jumps_at list script slot) (below n)) last ∙ sym (jumps-whole list script slot))
          (c.loop-node.invariant.swept begin swept are);
      err = λ begin swept are. tt;
    }
