use Rattle.std.proofs.Common.{length, ap, sym, ◌∙◌, arith}
use Rattle.causes.specs.RunSlots.{is_judged_so}
use Rattle.run_looks.proofs.StepsBack.{count-in, count-out, judged-none, judged-own}
use Rattle.run_looks.specs.Back.{is_among_verdicts}
use Rattle.run_rows.specs.declared.row.NodeRow.{NodeRow}
use Rattle.ttp_world.specs.Acknowledgement.{is_sent_or_joined}
use Rattle.run_looks.proofs.back.count_judged_since_own.Goals as goal

pub loop-at-preserved-then-is_judged_so : goal.loop-at-preserved-then-is_judged_so
loop-at-preserved-then-is_judged_so c =
    let run = c.args.run.now in
    let p = is_among_verdicts c.args.verdicts in
    let step =
    count-in p c.args.node run.list run.script c.loop-at.at (omega arith)
    (ap (λ (r : NodeRow). is_sent_or_joined r.entry) (sym c.row.ensures)
    ∙ sym c.is_of.ensures ∙ c.if-not-is_of.true)
    (ap (λ (r : NodeRow). is_judged_so p r.entry) (sym c.row-in-loop-at.ensures)
    ∙ sym c.is_judged_so.ensures ∙ c.if-is_judged_so.true) in
    record { count = omega (arith, step, c.loop-at.invariant.count); within = omega arith }

pub loop-at-preserved : goal.loop-at-preserved
loop-at-preserved c =
    let run = c.args.run.now in
    let p = is_among_verdicts c.args.verdicts in
    let step =
    count-out p c.args.node run.list run.script c.loop-at.at (omega arith)
    (ap (λ (r : NodeRow). is_sent_or_joined r.entry) (sym c.row.ensures)
    ∙ sym c.is_of.ensures ∙ c.if-not-is_of.true)
    (ap (λ (r : NodeRow). is_judged_so p r.entry) (sym c.row-in-loop-at.ensures)
    ∙ sym c.is_judged_so.ensures ∙ c.if-is_judged_so.false) in
    record { count = omega (arith, step, c.loop-at.invariant.count); within = omega arith }

pub returns-else-not-is_of : goal.returns-else-not-is_of
returns-else-not-is_of c =
    let run = c.args.run.now in
    let none =
    ap length
    (judged-own (is_among_verdicts c.args.verdicts) c.args.node run.list run.script c.loop-at.at (omega arith)
    (ap (λ (r : NodeRow). is_sent_or_joined r.entry) (sym c.row.ensures)
    ∙ sym c.is_of.ensures ∙ c.if-not-is_of.false)) in
    omega (arith, none, c.loop-at.invariant.count)

pub returns-after-loop-at : goal.returns-after-loop-at
returns-after-loop-at c =
    let run = c.args.run.now in
    let none =
    ap length
    (judged-none (is_among_verdicts c.args.verdicts) c.args.node run.list run.script c.loop-at.at (omega arith)) in
    omega (arith, none, c.loop-at.invariant.count)
