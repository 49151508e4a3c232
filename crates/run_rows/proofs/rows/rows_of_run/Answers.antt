use Rattle.std.proofs.Common.{arith, ◌∙◌, ◌++◌, add-one, ap, sym}
use Rattle.run_rows.proofs.Slots.{near-next}
use Rattle.run_rows.specs.Rows.{rows_in, rows_of, slot_in}
use Rattle.run_rows.proofs.rows.rows_of_run.Goals as goal

pub loop-slot-preserved : goal.loop-slot-preserved
loop-slot-preserved c =
    let list = c.args.list.now in
    let script = c.args.script.now in
    let slot = c.loop-slot.slot in
    record {
      run = c.step.ensures;
      kept = c.all_kept_after-kept.ensures;
      begun = c.all_begun-begun.ensures;
      rows = c.in_ok-push_rows.ensures
          ∙ ap (λ rows. rows ++ rows_of list (slot_in list script slot)) c.loop-slot.invariant.rows
          ∙ ap (rows_in list script) (sym (add-one slot));
      near = near-next list script slot c.loop-slot.invariant.near c.loop-slot.invariant.begun.near;
    }

pub returns-clause-near : goal.returns-clause-near
returns-clause-near c = λ t k less node. c.loop-slot.invariant.near t k (omega arith) node
