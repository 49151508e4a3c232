use Rattle.std.proofs.Common.{◌-◌, ◌++◌, List, ap, append_assoc, sym, ◌∙◌, arith}
use Rattle.std.proofs.lemmas.List.{append-nil}
use Rattle.causes.specs.RunSlots.{judged_since_own}
use Rattle.causes.specs.declared.cause.Spot.{Spot}
use Rattle.run_looks.proofs.StepsBack.{judged-none, judged-on, judged-own}
use Rattle.run_looks.specs.Back.{is_among_verdicts, judged_in}
use Rattle.run_rows.specs.Rows.{past_slots, run_slot}
use Rattle.run_rows.specs.declared.row.NodeRow.{NodeRow}
use Rattle.ttp_world.specs.Acknowledgement.{is_sent_or_joined}
use Rattle.run_looks.proofs.back.add_judged_since_own.Goals as goal

pub loop-at-preserved : goal.loop-at-preserved
loop-at-preserved c =
    let run = c.args.run.now in
    let p = is_among_verdicts c.args.verdicts in
    let k = c.args.node in
    let at = c.loop-at.at in
    let more = judged_since_own p k (past_slots run (at - 1)) in
    let out = c.loop-at.out in
    record {
      lines = c.in_ok-add_judged.ensures.lines ∙ append-nil out.lines ∙ c.loop-at.invariant.lines;
      entries =
          ap (λ (spots : List Spot). spots ++ more) c.in_ok-add_judged.ensures.entries
          ∙ append_assoc out.entries (judged_in p k (run_slot run (at - 1))) more
          ∙ ap (λ (spots : List Spot). out.entries ++ spots)
          (sym (judged-on p k run.list run.script at (omega arith)
          (ap (λ (r : NodeRow). is_sent_or_joined r.entry) (sym c.row.ensures)
          ∙ sym c.is_of.ensures ∙ c.if-not-is_of.true)))
          ∙ c.loop-at.invariant.entries;
      within = omega arith;
    }

pub returns-else-not-is_of : goal.returns-else-not-is_of
returns-else-not-is_of c =
    let run = c.args.run.now in
    let p = is_among_verdicts c.args.verdicts in
    let out = c.loop-at.out in
    record {
      lines = c.loop-at.invariant.lines ∙ sym (append-nil c.args.out.now.lines);
      entries =
          sym (append-nil out.entries)
          ∙ ap (λ (spots : List Spot). out.entries ++ spots)
          (sym (judged-own p c.args.node run.list run.script c.loop-at.at (omega arith)
          (ap (λ (r : NodeRow). is_sent_or_joined r.entry) (sym c.row.ensures)
          ∙ sym c.is_of.ensures ∙ c.if-not-is_of.false)))
          ∙ c.loop-at.invariant.entries;
    }

pub returns-after-loop-at : goal.returns-after-loop-at
returns-after-loop-at c =
    let run = c.args.run.now in
    let p = is_among_verdicts c.args.verdicts in
    let out = c.loop-at.out in
    record {
      lines = c.loop-at.invariant.lines ∙ sym (append-nil c.args.out.now.lines);
      entries =
          sym (append-nil out.entries)
          ∙ ap (λ (spots : List Spot). out.entries ++ spots)
          (sym (judged-none p c.args.node run.list run.script c.loop-at.at (omega arith)))
          ∙ c.loop-at.invariant.entries;
    }
