use Rattle.fault_runs.proofs.Words.{◌≡◌, ℕ, ◌≤◌, ◌+◌, arith, length, ap, sym, subst}
use Rattle.fault_runs.proofs.Words.{◌∙◌, length-map, map, OnOk, IfErr, WroteLines}
use Rattle.fault_runs.proofs.Words.{Lines, nodes-most, CampaignFault, LeftBy, tried_at, most_tried, tried_of}
use Rattle.fault_runs.proofs.Ranges.{shown-row, tried-few, tried-stand}
use Rattle.fault_runs.proofs.Tries.{lines-of}
use Rattle.fault_runs.proofs.put.put_slot.Goals as goal

pub tried_in-requires-clause-row : goal.tried_in-requires-clause-row
tried_in-requires-clause-row g c =
    let list = c.args.common.now.list.now in
    let script = c.args.common.now.script.now in
    let slot = c.args.slot in
    let shown = c.states.ensures script (slot + 1) c.step.ensures.own (omega arith) in
    c.as_slice-row.ensures ∙ c.in-Ok.ensures ∙ shown-row list script slot c.states.result.now c.requires.slot shown

pub try_beside-requires-clause-own : goal.try_beside-requires-clause-own
try_beside-requires-clause-own g c κs within =
    let list = c.args.common.now.list.now in
    let script = c.args.common.now.script.now in
    let slot = c.args.slot in
    let shown = c.states.ensures script (slot + 1) c.step.ensures.own (omega arith) in
    record {
      inside = c.requires.slot;
      before = c.step.ensures.before;
      does = c.as_slice-row.ensures ∙ c.in-Ok.ensures
          ∙ shown-row list script slot c.states.result.now c.requires.slot shown;
    }

pub try_beside-requires-clause-faults : goal.try_beside-requires-clause-faults
try_beside-requires-clause-faults g c κs within =
    rw (c.as_slice-faults.ensures, c.in-Ok-tried_in.ensures)
    (let common = c.args.common.now in
    tried-stand common.list.now common.script.now common.first common.last c.args.slot
    c.requires.may.valid c.requires.slot)

pub put_all-requires-clause-count : goal.put_all-requires-clause-count
put_all-requires-clause-count g c =
    let list = c.args.common.now.list.now in
    let script = c.args.common.now.script.now in
    let tried = tried_at c.args.common.now c.args.slot in
    let all : c.as_slice.result.now ≡ map (tried_of list script) tried =
    c.as_slice.ensures.value ∙ c.in-Ok-try_beside.ensures
    ∙ ap (map (tried_of list script)) (c.as_slice-faults.ensures ∙ c.in-Ok-tried_in.ensures) in
    subst (λ (n : ℕ). n ≤ most_tried) (sym (ap length all ∙ length-map tried (tried_of list script)))
    (tried-few list script c.args.common.now.first c.args.common.now.last c.args.slot
    (nodes-most list c.requires.may.valid))

pub returns-clause-ok : goal.returns-clause-ok
returns-clause-ok g c =
    let list = c.args.common.now.list.now in
    let script = c.args.common.now.script.now in
    let tried = tried_at c.args.common.now c.args.slot in
    let all : c.as_slice.result.now ≡ map (tried_of list script) tried =
    c.as_slice.ensures.value ∙ c.in-Ok-try_beside.ensures
    ∙ ap (map (tried_of list script)) (c.as_slice-faults.ensures ∙ c.in-Ok-tried_in.ensures) in
    subst
    (λ (lines : Lines). OnOk c.put_all.result
    (WroteLines (g.K.Sink.output c.args.out.now) (g.K.Sink.output c.put_all.new.out) lines))
    (lines-of list script tried c.as_slice.result.now all) c.put_all.ensures.ok

pub returns-clause-err : goal.returns-clause-err
returns-clause-err g c =
    let list = c.args.common.now.list.now in
    let script = c.args.common.now.script.now in
    let tried = tried_at c.args.common.now c.args.slot in
    let all : c.as_slice.result.now ≡ map (tried_of list script) tried =
    c.as_slice.ensures.value ∙ c.in-Ok-try_beside.ensures
    ∙ ap (map (tried_of list script)) (c.as_slice-faults.ensures ∙ c.in-Ok-tried_in.ensures) in
    subst
    (λ (lines : Lines). IfErr c.put_all.result
    (λ (why : CampaignFault). LeftBy why (g.K.Sink.output c.args.out.now) (g.K.Sink.output c.put_all.new.out) lines))
    (lines-of list script tried c.as_slice.result.now all) c.put_all.ensures.err
