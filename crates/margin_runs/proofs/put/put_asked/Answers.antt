use Rattle.std.proofs.Common.{◌+◌, ◌*◌, Bool, cond, List, [], ◌++◌, ap, sym, subst, ◌∙◌, append-nil, arith}
use Rattle.std.specs.Prelude.{OnOk, IfErr}
use Rattle.clock_margins.specs.declared.margin.Sweep.{Sweep}
use Rattle.fault_runs.specs.declared.put.CampaignFault.{CampaignFault}
use Rattle.fault_runs.specs.Ends.{LeftBy}
use Rattle.margin_runs.specs.Written.{AreSwept, lines_swept, jumps_in, most_in_slot}
use Rattle.margin_runs.proofs.Sweeping.{total-more}
use Rattle.margin_runs.proofs.put.put_asked.Goals as goal

-- a slot outside the range has no sweeps
pub returns-then-not-is_in_range : goal.returns-then-not-is_in_range
returns-then-not-is_in_range g c =
    let list = c.args.common.now.list.now in
    let script = c.args.common.now.script.now in
    let slot = c.args.slot in
    let off = sym c.is_in_range.ensures ∙ c.if-not-is_in_range.true in
    record {
      own = c.step.ensures;
      few = total-more (most_in_slot * slot) (most_in_slot * (slot + 1)) c.args.total.now (omega arith) c.requires.few;
      ok = λ begin swept are.
          subst
          (λ (xs : List Sweep). AreSwept begin (g.K.Sink.output c.args.out.now) c.args.common.now xs c.args.total.now)
          (sym (ap (λ (b : Bool). swept ++ cond b (jumps_in list script slot) []) off ∙ append-nil swept)) are;
      err = λ begin swept are. tt;
    }

pub put_slot-requires-clause-shown : goal.put_slot-requires-clause-shown
put_slot-requires-clause-shown g c κs within =
    c.states-states.ensures c.args.common.now.script.now (c.args.slot + 1) c.step.ensures (omega arith)

pub returns-clause-ok : goal.returns-clause-ok
returns-clause-ok g c = λ begin swept are.
    let list = c.args.common.now.list.now in
    let script = c.args.common.now.script.now in
    let on = sym c.is_in_range.ensures ∙ c.if-not-is_in_range.false in
    subst
    (λ (b : Bool). OnOk c.put_slot.result
    (AreSwept begin (g.K.Sink.output c.put_slot.new.out) c.args.common.now
    (swept ++ cond b (jumps_in list script c.args.slot) []) c.put_slot.new.total))
    (sym on) (c.put_slot.ensures.ok begin swept are)

pub returns-clause-err : goal.returns-clause-err
returns-clause-err g c = λ begin swept are.
    let list = c.args.common.now.list.now in
    let script = c.args.common.now.script.now in
    let on = sym c.is_in_range.ensures ∙ c.if-not-is_in_range.false in
    subst
    (λ (b : Bool). IfErr c.put_slot.result
    (λ (why : CampaignFault). LeftBy why begin (g.K.Sink.output c.put_slot.new.out)
    (lines_swept c.args.common.now (swept ++ cond b (jumps_in list script c.args.slot) []))))
    (sym on) (c.put_slot.ensures.err begin swept are)
