use Rattle.fault_runs.proofs.Words.{◌≡◌, ◌<◌, ◌≤◌, ◌+◌, ◌++◌, List, arith, ap, sym, subst}
use Rattle.fault_runs.proofs.Words.{◌∙◌, append_assoc, map-append, WroteLines}
use Rattle.fault_runs.proofs.Words.{Lines, LeftBy, Wrote-none, Wrote-join, Event, run_line, fault_lines, tried_at}
use Rattle.fault_runs.proofs.Words.{tried_before, all_tried, IsTallyOf}
use Rattle.ttp_base.proofs.Below.{flat_map-next, flat_map-split}
use Rattle.fault_runs.proofs.Endings.{leaves-after, leaves-more}
use Rattle.fault_runs.proofs.Ranges.{tried-to}
use Rattle.fault_runs.proofs.put.put_slots.Goals as goal

pub loop-slot-init : goal.loop-slot-init
loop-slot-init g c = (c.requires.run, c.requires.told, c.requires.few, Wrote-none _)

pub loop-slot-preserved : goal.loop-slot-preserved
loop-slot-preserved g c =
    let list = c.args.common.now.list.now in
    let script = c.args.common.now.script.now in
    let slot = c.loop-slot.slot in
    let now = tried_at c.args.common.now slot in
    let before = tried_before list script c.args.common.now.first c.args.common.now.last slot in
    let more : before ++ now ≡ tried_before list script c.args.common.now.first c.args.common.now.last (slot + 1) =
    sym (flat_map-next (tried_at c.args.common.now) slot) in (
      c.in_default.ensures.run,
      subst (λ (fs : List Event). IsTallyOf list script fs c.put_slot.new.tally) more
          (c.in_default.ensures.told before c.loop-slot.invariant.1),
      c.in_default.ensures.few,
      subst (λ (lines : Lines). WroteLines (g.K.Sink.output c.args.out.now) (g.K.Sink.output c.put_slot.new.out) lines)
          (sym (map-append (run_line list script) before now) ∙ ap (fault_lines list script) more)
          (Wrote-join _ _ _ (fault_lines list script before) (fault_lines list script now) c.loop-slot.invariant.3
          c.in_default.ensures.ok),
    )

pub returns-in-Err-clause-err : goal.returns-in-Err-clause-err
returns-in-Err-clause-err g c =
    let list = c.args.common.now.list.now in
    let script = c.args.common.now.script.now in
    let slot = c.loop-slot.slot in
    let why = c.in-Err.why in
    let a = g.K.Sink.output c.args.out.now in
    let b = g.K.Sink.output c.loop-slot.out in
    let d = g.K.Sink.output c.put_slot.new.out in
    let line = run_line list script in
    let tried = tried_at c.args.common.now in
    let before = tried_before list script c.args.common.now.first c.args.common.now.last slot in
    let split = flat_map-split tried slot script.slots
    (let within : slot < script.slots = omega (arith, c.loop-slot-test.true, c.end_of-slot-end.ensures) in within) in
    let all : (fault_lines list script before ++ fault_lines list script (tried slot))
    ++ fault_lines list script split.0
    ≡ fault_lines list script (all_tried c.args.common.now) =
    append_assoc (fault_lines list script before) (fault_lines list script (tried slot))
    (fault_lines list script split.0)
    ∙ ap (λ (lines : Lines). fault_lines list script before ++ lines) (sym (map-append line (tried slot) split.0))
    ∙ sym (map-append line before (tried slot ++ split.0))
    ∙ ap (fault_lines list script) (sym split.1) in
    subst (λ (lines : Lines). LeftBy why a d lines) all
    (leaves-more why a d (fault_lines list script before ++ fault_lines list script (tried slot))
    (fault_lines list script split.0)
    (leaves-after why a b d (fault_lines list script before) (fault_lines list script (tried slot))
    c.loop-slot.invariant.3 c.in-Err.ensures.err))

pub returns-clause-told : goal.returns-clause-told
returns-clause-told g c =
    let list = c.args.common.now.list.now in
    let script = c.args.common.now.script.now in
    let past : c.end_of-slot-end.result ≤ c.loop-slot.slot = omega (arith, c.loop-slot-test.false) in
    let same =
    tried-to list script c.args.common.now.first c.args.common.now.last c.end_of-slot-end.result
    c.loop-slot.slot c.end_of-slot-end.ensures past
    c.loop-slot.invariant.0.run.within in
    subst (λ (fs : List Event). IsTallyOf list script fs c.loop-slot.tally) same c.loop-slot.invariant.1

pub returns-clause-ok : goal.returns-clause-ok
returns-clause-ok g c =
    let list = c.args.common.now.list.now in
    let script = c.args.common.now.script.now in
    let past : c.end_of-slot-end.result ≤ c.loop-slot.slot = omega (arith, c.loop-slot-test.false) in
    let same =
    tried-to list script c.args.common.now.first c.args.common.now.last c.end_of-slot-end.result
    c.loop-slot.slot c.end_of-slot-end.ensures past
    c.loop-slot.invariant.0.run.within in
    subst
    (λ (fs : List Event). WroteLines (g.K.Sink.output c.args.out.now)
    (g.K.Sink.output c.loop-slot.out) (fault_lines list script fs))
    same c.loop-slot.invariant.3
