use Rattle.std.proofs.Common.{◌≡◌, ◌-◌, ap, sym, ◌∙◌, take, arith}
use Rattle.causes.specs.OwnSlots.{oldest}
use Rattle.causes.specs.RunSlots.{RunSlots, is_judged_so, judged_so}
use Rattle.entry_causes.proofs.OwnFacts.{first-none, oldest-is}
use Rattle.entry_causes.proofs.Past.{take-none}
use Rattle.entry_causes.proofs.Since.{since-take}
use Rattle.run_rows.specs.Rows.{past_slots}
use Rattle.run_rows.specs.declared.row.NodeRow.{NodeRow}
use Rattle.ttp_world.specs.Acknowledgement.{is_correct}
use Rattle.entry_causes.proofs.own.first_correct.Goals as goal

pub loop-at-init : goal.loop-at-init
loop-at-init c =
    let run = c.args.run.now in
    ap (judged_so is_correct c.args.node)
    (take-none run.list run.script c.back_to-from.result c.back_to-from.result (omega arith))

pub loop-at-preserved : goal.loop-at-preserved
loop-at-preserved c =
    let run = c.args.run.now in
    first-none is_correct run.list run.script c.loop-at.at c.back_to-from.result c.args.node (omega arith)
    c.loop-at.invariant
    (ap (λ (r : NodeRow). is_judged_so is_correct r.entry) (sym c.row.ensures)
    ∙ sym c.is_judged_so.ensures ∙ c.if-is_judged_so.false)

pub returns-then-is_judged_so-clause-value : goal.returns-then-is_judged_so-clause-value
returns-then-is_judged_so-clause-value c =
    let run = c.args.run.now in
    let k = c.args.node in
    let from = c.back_to-from.result in
    sym
    (ap (λ (slots : RunSlots). oldest (judged_so is_correct k slots))
    (since-take run.list run.script c.args.before from k c.back_to-from.ensures.is)
    ∙ oldest-is is_correct run.list run.script c.args.before c.loop-at.at from k (omega arith) (omega arith)
    c.loop-at.invariant
    (ap (λ (r : NodeRow). is_judged_so is_correct r.entry) (sym c.row.ensures)
    ∙ sym c.is_judged_so.ensures ∙ c.if-is_judged_so.true))

pub returns-clause-value : goal.returns-clause-value
returns-clause-value c =
    let run = c.args.run.now in
    let k = c.args.node in
    let from = c.back_to-from.result in
    let end : c.args.before ≡ c.loop-at.at = omega (arith, c.back_to-from.ensures.within) in
    sym
    (ap (λ (slots : RunSlots). oldest (judged_so is_correct k slots))
    (since-take run.list run.script c.args.before from k c.back_to-from.ensures.is
    ∙ (λ i. take (end i - from) (past_slots run (end i))))
    ∙ ap oldest c.loop-at.invariant)
