use Rattle.std.proofs.Common.{[], ◌∷◌, ◌++◌, map}
use Rattle.std.proofs.lemmas.Result.{err_from_is_err_and, on_ok_weaker, on_err_weaker}
use Rattle.ttp_base.proofs.Outputs.{CutShort-more}
use Rattle.script_lines.specs.ScriptLines.{slots_line, all_on_lines, all_drift_lines, event_line, script_lines}
use Rattle.script_lines.proofs.Parts.{all_parts, cut_first, cut_second, cut_third}
use Rattle.script_lines.proofs.put.put_script.Goals as goal

pub returns-in_err-write-clause-failed : goal.returns-in_err-write-clause-failed
unfolding script_lines
returns-in_err-write-clause-failed g c =
    let failed = err_from_is_err_and c.from_residual.result c.from_residual.ensures.1 in
    let script = c.args.script.now in
    rw failed.1 (CutShort-more _ _ (slots_line script.slots ∷ [])
    (all_on_lines script ++ (all_drift_lines script ++ map event_line script.events))
    (rw (← c.slots_line.ensures, ← c.bytes.ensures) c.in_err-write.ensures.failed))

pub returns-in_err-put_all_on-clause-failed : goal.returns-in_err-put_all_on-clause-failed
unfolding script_lines
returns-in_err-put_all_on-clause-failed g c =
    let failed =
    err_from_is_err_and c.from_residual-in_err-put_all_on.result c.from_residual-in_err-put_all_on.ensures.1 in
    let script = c.args.script.now in
    rw failed.1 (cut_first _ _ (slots_line script.slots) (all_on_lines script) (all_drift_lines script)
    (map event_line script.events) (rw (← c.slots_line.ensures, ← c.bytes.ensures) c.in_ok-write.ensures.ok) _
    c.in_err-put_all_on.ensures.failed)

pub returns-in_err-put_all_drifts-clause-failed : goal.returns-in_err-put_all_drifts-clause-failed
unfolding script_lines
returns-in_err-put_all_drifts-clause-failed g c =
    let failed =
    err_from_is_err_and c.from_residual-in_err-put_all_drifts.result c.from_residual-in_err-put_all_drifts.ensures.1 in
    let script = c.args.script.now in
    rw failed.1 (cut_second _ _ (slots_line script.slots) (all_on_lines script) (all_drift_lines script)
    (map event_line script.events) (rw (← c.slots_line.ensures, ← c.bytes.ensures) c.in_ok-write.ensures.ok) _ _
    c.in_ok-put_all_on.ensures.ok c.in_err-put_all_drifts.ensures.failed)

pub returns-clause-ok : goal.returns-clause-ok
unfolding script_lines
returns-clause-ok g c =
    let script = c.args.script.now in
    on_ok_weaker c.put_events.result
    (λ wrote. all_parts _ _ (slots_line script.slots) (all_on_lines script) (all_drift_lines script)
    (map event_line script.events) (rw (← c.slots_line.ensures, ← c.bytes.ensures) c.in_ok-write.ensures.ok) _ _ _
    c.in_ok-put_all_on.ensures.ok c.in_ok-put_all_drifts.ensures.ok (rw (← c.as_slice.ensures) wrote))
    c.put_events.ensures.ok

pub returns-clause-failed : goal.returns-clause-failed
unfolding script_lines
returns-clause-failed g c =
    let script = c.args.script.now in
    on_err_weaker c.put_events.result
    (λ cut. cut_third _ _ (slots_line script.slots) (all_on_lines script) (all_drift_lines script)
    (map event_line script.events) (rw (← c.slots_line.ensures, ← c.bytes.ensures) c.in_ok-write.ensures.ok) _ _ _
    c.in_ok-put_all_on.ensures.ok c.in_ok-put_all_drifts.ensures.ok (rw (← c.as_slice.ensures) cut))
    c.put_events.ensures.failed
