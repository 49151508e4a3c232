use Rattle.std.proofs.Common.{ap, sym, ◌∙◌, arith}
use Rattle.run_looks.proofs.StepsBack.{back-found, back-none, back-on}
use Rattle.run_looks.specs.Back.{is_of_kind}
use Rattle.run_rows.specs.declared.row.NodeRow.{NodeRow}
use Rattle.run_looks.proofs.back.back_to.Goals as goal

pub loop-at-preserved : goal.loop-at-preserved
loop-at-preserved c =
    let run = c.args.run.now in
    record {
      is =
          c.loop-at.invariant.is
          ∙ back-on (is_of_kind c.args.kind) c.args.node run.list run.script c.loop-at.at (omega arith)
          (ap (λ (r : NodeRow). is_of_kind c.args.kind r.entry) (sym c.row.ensures)
          ∙ sym c.is_of.ensures ∙ c.if-not-is_of.true);
      within = omega arith;
    }

pub returns-else-not-is_of : goal.returns-else-not-is_of
returns-else-not-is_of c =
    let run = c.args.run.now in
    record {
      is =
          c.loop-at.invariant.is
          ∙ back-found (is_of_kind c.args.kind) c.args.node run.list run.script c.loop-at.at (omega arith)
          (ap (λ (r : NodeRow). is_of_kind c.args.kind r.entry) (sym c.row.ensures)
          ∙ sym c.is_of.ensures ∙ c.if-not-is_of.false);
      within = c.loop-at.invariant.within;
    }

pub returns-after-loop-at : goal.returns-after-loop-at
returns-after-loop-at c =
    let run = c.args.run.now in
    record {
      is =
          c.loop-at.invariant.is
          ∙ back-none (is_of_kind c.args.kind) c.args.node run.list run.script c.loop-at.at (omega arith);
      within = c.loop-at.invariant.within;
    }
