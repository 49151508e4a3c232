use Rattle.std.proofs.Common.{◌-◌, ◌++◌, [], ◌∷◌, List, ap, append_assoc, sym, ◌∙◌, arith}
use Rattle.std.proofs.lemmas.List.{append-nil}
use Rattle.causes.specs.Judged.{doubt_entries}
use Rattle.causes.specs.RunSlots.{is_judged_so, is_miss, is_tentative}
use Rattle.causes.specs.declared.cause.Spot.{Spot}
use Rattle.entry_causes.proofs.Adding.{on-ok}
use Rattle.entry_causes.proofs.Doubts.{doubt-begun, doubt-missed, doubt-none, doubt-on}
use Rattle.run_rows.specs.Rows.{past_slots}
use Rattle.run_rows.specs.declared.row.NodeRow.{NodeRow}
use Rattle.entry_causes.proofs.judged.add_doubt_entries.Goals as goal

pub returns-then-is_judged_so : goal.returns-then-is_judged_so
returns-then-is_judged_so c =
    let run = c.args.run.now in
    let at = c.loop-at.at in
    let out = c.loop-at.out in
    let begun =
    doubt-begun run.list run.script at c.args.node (omega arith)
    (ap (λ (r : NodeRow). is_judged_so is_tentative r.entry) (sym c.row.ensures)
    ∙ sym c.is_judged_so.ensures ∙ c.if-is_judged_so.true) in
    on-ok c.add_entry.result (λ added. record {
      lines = added.lines ∙ append-nil out.lines ∙ c.loop-at.invariant.lines ∙ sym (append-nil c.args.out.now.lines);
      entries =
          added.entries ∙ ap (λ (spots : List Spot). out.entries ++ spots) (sym begun) ∙ c.loop-at.invariant.entries;
    }) c.add_entry.ensures

pub loop-at-preserved-in-Continue-1 : goal.loop-at-preserved-in-Continue-1
loop-at-preserved-in-Continue-1 c =
    let run = c.args.run.now in
    let at = c.loop-at.at in
    let out = c.loop-at.out in
    let more = doubt_entries c.args.node (past_slots run (at - 1)) in
    let missed =
    doubt-missed run.list run.script at c.args.node (omega arith)
    (ap (λ (r : NodeRow). is_judged_so is_tentative r.entry) (sym c.row.ensures)
    ∙ sym c.is_judged_so.ensures ∙ c.if-is_judged_so.false)
    (ap (λ (r : NodeRow). is_judged_so is_miss r.entry) (sym c.row.ensures)
    ∙ sym c.is_judged_so-in-loop-at.ensures ∙ c.if-is_judged_so-2.true) in
    record {
      lines = c.in_ok-add_entry.ensures.lines ∙ append-nil out.lines ∙ c.loop-at.invariant.lines;
      entries =
          ap (λ (spots : List Spot). spots ++ more) c.in_ok-add_entry.ensures.entries
          ∙ append_assoc out.entries (record { slot = at - 1; node = c.args.node } ∷ []) more
          ∙ ap (λ (spots : List Spot). out.entries ++ spots) (sym missed)
          ∙ c.loop-at.invariant.entries;
      within = omega arith;
    }

pub loop-at-preserved : goal.loop-at-preserved
loop-at-preserved c =
    let run = c.args.run.now in
    let out = c.loop-at.out in
    let on =
    doubt-on run.list run.script c.loop-at.at c.args.node (omega arith)
    (ap (λ (r : NodeRow). is_judged_so is_tentative r.entry) (sym c.row.ensures)
    ∙ sym c.is_judged_so.ensures ∙ c.if-is_judged_so.false)
    (ap (λ (r : NodeRow). is_judged_so is_miss r.entry) (sym c.row.ensures)
    ∙ sym c.is_judged_so-in-loop-at.ensures ∙ c.if-is_judged_so-2.false) in
    record {
      lines = c.loop-at.invariant.lines;
      entries = ap (λ (spots : List Spot). out.entries ++ spots) (sym on) ∙ c.loop-at.invariant.entries;
      within = omega arith;
    }

pub returns : goal.returns
returns c =
    let run = c.args.run.now in
    let out = c.loop-at.out in
    record {
      lines = c.loop-at.invariant.lines ∙ sym (append-nil c.args.out.now.lines);
      entries =
          sym (append-nil out.entries)
          ∙ ap (λ (spots : List Spot). out.entries ++ spots)
          (sym (doubt-none run.list run.script c.loop-at.at c.args.node (omega arith)))
          ∙ c.loop-at.invariant.entries;
    }
