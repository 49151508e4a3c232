use Rattle.std.proofs.Common.{◌++◌, ◌-◌, [], ◌∷◌, List, ap, append_assoc, sym, ◌∙◌, arith}
use Rattle.std.proofs.lemmas.List.{append-nil}
use Rattle.causes.specs.Said.{path}
use Rattle.causes.specs.declared.cause.Spot.{Spot}
use Rattle.entry_causes.proofs.Adding.{on-ok}
use Rattle.entry_causes.proofs.Paths.{path-from, path-here, path-none, path-on, path-started}
use Rattle.run_rows.specs.Rows.{past_slots}
use Rattle.run_rows.specs.declared.row.NodeRow.{NodeRow}
use Rattle.ttp_world.specs.Diary.{begins_stint}
use Rattle.entry_causes.proofs.said.add_path.Goals as goal

pub returns-in-None : goal.returns-in-None
returns-in-None c =
    let run = c.args.run.now in
    let out = c.loop-at.out in
    let here =
    path-here run.list run.script c.loop-at.at c.loop-at.who (omega arith)
    (ap (λ (r : NodeRow). begins_stint r.entry) (sym c.row.ensures) ∙ sym c.is_of.ensures ∙ c.if-is_of.true)
    (sym c.joined_from.ensures.value ∙ c.in-None.is) in
    record {
      lines =
          c.in_ok-add_entry.ensures.lines ∙ append-nil out.lines ∙ c.loop-at.invariant.lines
          ∙ sym (append-nil c.args.out.now.lines);
      entries =
          c.in_ok-add_entry.ensures.entries ∙ ap (λ (spots : List Spot). out.entries ++ spots) (sym here)
          ∙ c.loop-at.invariant.entries;
    }

pub returns : goal.returns
returns c =
    let run = c.args.run.now in
    let out = c.loop-at.out in
    record {
      lines = c.loop-at.invariant.lines ∙ sym (append-nil c.args.out.now.lines);
      entries =
          sym (append-nil out.entries)
          ∙ ap (λ (spots : List Spot). out.entries ++ spots)
          (sym (path-none run.list run.script c.loop-at.at c.loop-at.who (omega arith)))
          ∙ c.loop-at.invariant.entries;
    }

pub returns-then-starts : goal.returns-then-starts
returns-then-starts c =
    let run = c.args.run.now in
    let at = c.loop-at.at in
    let out = c.loop-at.out in
    let one = c.add_entry.new.self in
    let started =
    path-started run.list run.script at c.loop-at.who c.in-Some.from (omega arith)
    (ap (λ (r : NodeRow). begins_stint r.entry) (sym c.row.ensures) ∙ sym c.is_of.ensures ∙ c.if-is_of.true)
    (sym c.joined_from.ensures.value ∙ c.in-Some.is) (sym c.starts.ensures ∙ c.if-starts.true) in
    on-ok c.add_entry-then-starts.result (λ added. record {
      lines =
          added.lines ∙ append-nil one.lines ∙ c.in_ok-add_entry.ensures.lines ∙ append-nil out.lines
          ∙ c.loop-at.invariant.lines ∙ sym (append-nil c.args.out.now.lines);
      entries =
          added.entries
          ∙ ap (λ (spots : List Spot). spots ++ record { slot = at - 1; node = c.in-Some.from } ∷ [])
          c.in_ok-add_entry.ensures.entries
          ∙ append_assoc out.entries (record { slot = at - 1; node = c.loop-at.who } ∷ [])
          (record { slot = at - 1; node = c.in-Some.from } ∷ [])
          ∙ ap (λ (spots : List Spot). out.entries ++ spots) (sym started)
          ∙ c.loop-at.invariant.entries;
    }) c.add_entry-then-starts.ensures

pub loop-at-preserved-in-Some : goal.loop-at-preserved-in-Some
loop-at-preserved-in-Some c =
    let run = c.args.run.now in
    let at = c.loop-at.at in
    let out = c.loop-at.out in
    let more = path c.in-Some.from (past_slots run (at - 1)) in
    let from =
    path-from run.list run.script at c.loop-at.who c.in-Some.from (omega arith)
    (ap (λ (r : NodeRow). begins_stint r.entry) (sym c.row.ensures) ∙ sym c.is_of.ensures ∙ c.if-is_of.true)
    (sym c.joined_from.ensures.value ∙ c.in-Some.is) (sym c.starts.ensures ∙ c.if-starts.false) in
    record {
      lines = c.in_ok-add_entry.ensures.lines ∙ append-nil out.lines ∙ c.loop-at.invariant.lines;
      entries =
          ap (λ (spots : List Spot). spots ++ more) c.in_ok-add_entry.ensures.entries
          ∙ append_assoc out.entries (record { slot = at - 1; node = c.loop-at.who } ∷ []) more
          ∙ ap (λ (spots : List Spot). out.entries ++ spots) (sym from)
          ∙ c.loop-at.invariant.entries;
      node = c.in-Some.ensures.node;
      within = omega arith;
    }

pub loop-at-preserved : goal.loop-at-preserved
loop-at-preserved c =
    let run = c.args.run.now in
    let out = c.loop-at.out in
    let on =
    path-on run.list run.script c.loop-at.at c.loop-at.who (omega arith)
    (ap (λ (r : NodeRow). begins_stint r.entry) (sym c.row.ensures) ∙ sym c.is_of.ensures ∙ c.if-is_of.false) in
    record {
      lines = c.loop-at.invariant.lines;
      entries = ap (λ (spots : List Spot). out.entries ++ spots) (sym on) ∙ c.loop-at.invariant.entries;
      node = c.loop-at.invariant.node;
      within = omega arith;
    }
