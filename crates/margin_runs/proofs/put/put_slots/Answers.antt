use Rattle.std.proofs.Common.{◌≡◌, ℕ, List, ◌++◌, ap, sym, subst, ◌∙◌, append_assoc, arith}
use Rattle.std.specs.Prelude.{flat_map}
use Rattle.ttp_base.specs.NodeSet.{below}
use Rattle.ttp_base.proofs.Below.{flat_map-next, flat_map-split}
use Rattle.clock_margins.specs.declared.margin.Sweep.{Sweep}
use Rattle.fault_runs.specs.Ends.{LeftBy}
use Rattle.margin_runs.specs.Written.{AreSwept, lines_swept, jumps_asked, all_jumps}
use Rattle.margin_runs.proofs.Shown.{slots-whole}
use Rattle.margin_runs.proofs.Sweeping.{more-left}
use Rattle.margin_runs.proofs.put.put_slots.Goals as goal

pub loop-slot-preserved : goal.loop-slot-preserved
loop-slot-preserved g c =
    let list = c.args.common.now.list.now in
    let script = c.args.common.now.script.now in
    let slot = c.loop-slot.slot in
    let asked = jumps_asked list script c.args.asked in
    record {
      own = c.in_default.ensures.own;
      few = c.in_default.ensures.few;
      swept = λ begin none.
          subst
          (λ (xs : List Sweep). AreSwept begin (g.K.Sink.output c.put_asked.new.out) c.args.common.now xs
          c.put_asked.new.total)
          (sym (flat_map-next asked slot))
          (c.in_default.ensures.ok begin (flat_map asked (below slot)) (c.loop-slot.invariant.swept begin none));
    }

pub returns-in-Err-clause-err : goal.returns-in-Err-clause-err
returns-in-Err-clause-err g c = λ begin none.
    let list = c.args.common.now.list.now in
    let script = c.args.common.now.script.now in
    let slot = c.loop-slot.slot in
    let why = c.in-Err.why in
    let now = g.K.Sink.output c.put_asked.new.out in
    let asked = jumps_asked list script c.args.asked in
    let before = flat_map asked (below slot) in
    let split = flat_map-split asked slot script.slots c.loop-slot-test.true in
    let all : (before ++ asked slot) ++ split.0 ≡ all_jumps list script c.args.asked =
    append_assoc before (asked slot) split.0 ∙ sym split.1 ∙ sym (slots-whole list script c.args.asked) in
    subst (λ (xs : List Sweep). LeftBy why begin now (lines_swept c.args.common.now xs)) all
    (more-left c.args.common.now why begin now (before ++ asked slot) split.0
    (c.in-Err.ensures.err begin before (c.loop-slot.invariant.swept begin none)))

pub returns-clause-ok : goal.returns-clause-ok
returns-clause-ok g c = λ begin none.
    let list = c.args.common.now.list.now in
    let script = c.args.common.now.script.now in
    let asked = jumps_asked list script c.args.asked in
    let last : c.loop-slot.slot ≡ script.slots = omega (arith, c.loop-slot-test.false, c.loop-slot.auto.slot-end) in
    subst
    (λ (xs : List Sweep). AreSwept begin (g.K.Sink.output c.loop-slot.out) c.args.common.now xs c.loop-slot.total)
    (ap (λ (n : ℕ). flat_map asked (below n)) last ∙ sym (slots-whole list script c.args.asked))
    (c.loop-slot.invariant.swept begin none)
