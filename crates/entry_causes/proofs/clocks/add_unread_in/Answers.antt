use Rattle.std.proofs.Common.{◌-◌, ◌++◌, [], ◌∷◌, List, ap, append_assoc, sym, take, ◌∙◌, arith}
use Rattle.std.proofs.lemmas.List.{append-nil}
use Rattle.causes.specs.declared.cause.Spot.{Spot}
use Rattle.entry_causes.proofs.Unread.{unread-in, unread-none, unread-out}
use Rattle.entry_causes.specs.Notes.{unread_in}
use Rattle.run_rows.specs.Rows.{past_slots}
use Rattle.entry_causes.proofs.clocks.add_unread_in.Goals as goal

pub loop-at-preserved-in-Continue-1 : goal.loop-at-preserved-in-Continue-1
loop-at-preserved-in-Continue-1 c =
    let run = c.args.run.now in
    let at = c.loop-at.at in
    let out = c.loop-at.out in
    let more = unread_in run.list c.args.node c.args.stint (take (at - 1 - c.args.from) (past_slots run (at - 1))) in
    let here =
    unread-in run.list run.script c.args.node c.args.stint at c.args.from c.counts.result (omega arith) c.counts.ensures
    c.if-counts.true in
    record {
      lines = c.in_ok-add_entry.ensures.lines ∙ append-nil out.lines ∙ c.loop-at.invariant.lines;
      entries =
          ap (λ (spots : List Spot). spots ++ more) c.in_ok-add_entry.ensures.entries
          ∙ append_assoc out.entries (record { slot = at - 1; node = c.args.node } ∷ []) more
          ∙ ap (λ (spots : List Spot). out.entries ++ spots) (sym here)
          ∙ c.loop-at.invariant.entries;
      within = omega arith;
    }

pub loop-at-preserved : goal.loop-at-preserved
loop-at-preserved c =
    let run = c.args.run.now in
    let out = c.loop-at.out in
    let on =
    unread-out run.list run.script c.args.node c.args.stint c.loop-at.at c.args.from c.counts.result (omega arith)
    c.counts.ensures c.if-counts.false in
    record {
      lines = c.loop-at.invariant.lines;
      entries = ap (λ (spots : List Spot). out.entries ++ spots) (sym on) ∙ c.loop-at.invariant.entries;
      within = omega arith;
    }

pub returns : goal.returns
returns c =
    let run = c.args.run.now in
    let out = c.loop-at.out in
    record {
      lines = c.loop-at.invariant.lines ∙ sym (append-nil c.args.out.now.lines);
      entries =
          sym (append-nil out.entries)
          ∙ ap (λ (spots : List Spot). out.entries ++ spots)
          (sym (unread-none run.list run.script c.args.node c.args.stint c.loop-at.at c.args.from (omega arith)))
          ∙ c.loop-at.invariant.entries;
    }
