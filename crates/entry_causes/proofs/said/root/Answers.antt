use Rattle.std.proofs.Common.{ap, sym, ◌∙◌, arith}
use Rattle.entry_causes.proofs.Walks.{root-from, root-here, root-none, root-on, root-started}
use Rattle.run_rows.specs.declared.row.NodeRow.{NodeRow}
use Rattle.ttp_world.specs.Diary.{begins_stint}
use Rattle.entry_causes.proofs.said.root.Goals as goal

pub returns-in-None-clause-value : goal.returns-in-None-clause-value
returns-in-None-clause-value c =
    let run = c.args.run.now in
    sym (c.loop-at.invariant.is
    ∙ root-here run.list run.script c.loop-at.at c.loop-at.who (omega arith)
    (ap (λ (r : NodeRow). begins_stint r.entry) (sym c.row.ensures) ∙ sym c.is_of.ensures ∙ c.if-is_of.true)
    (sym c.joined_from.ensures.value ∙ c.in-None.is))

pub returns-then-starts-clause-value : goal.returns-then-starts-clause-value
returns-then-starts-clause-value c =
    let run = c.args.run.now in
    sym (c.loop-at.invariant.is
    ∙ root-started run.list run.script c.loop-at.at c.loop-at.who c.in-Some.from (omega arith)
    (ap (λ (r : NodeRow). begins_stint r.entry) (sym c.row.ensures) ∙ sym c.is_of.ensures ∙ c.if-is_of.true)
    (sym c.joined_from.ensures.value ∙ c.in-Some.is) (sym c.starts.ensures ∙ c.if-starts.true))

pub returns-clause-value : goal.returns-clause-value
returns-clause-value c =
    let run = c.args.run.now in
    sym (c.loop-at.invariant.is
    ∙ root-none run.list run.script c.loop-at.at c.loop-at.who (omega arith))

pub loop-at-preserved-in-Some : goal.loop-at-preserved-in-Some
loop-at-preserved-in-Some c =
    let run = c.args.run.now in
    record {
      is =
          c.loop-at.invariant.is
          ∙ root-from run.list run.script c.loop-at.at c.loop-at.who c.in-Some.from (omega arith)
          (ap (λ (r : NodeRow). begins_stint r.entry) (sym c.row.ensures) ∙ sym c.is_of.ensures ∙ c.if-is_of.true)
          (sym c.joined_from.ensures.value ∙ c.in-Some.is) (sym c.starts.ensures ∙ c.if-starts.false);
      node = c.in-Some.ensures.node;
      within = omega arith;
    }

pub loop-at-preserved : goal.loop-at-preserved
loop-at-preserved c =
    let run = c.args.run.now in
    record {
      is =
          c.loop-at.invariant.is
          ∙ root-on run.list run.script c.loop-at.at c.loop-at.who (omega arith)
          (ap (λ (r : NodeRow). begins_stint r.entry) (sym c.row.ensures) ∙ sym c.is_of.ensures ∙ c.if-is_of.false);
      node = c.loop-at.invariant.node;
      within = omega arith;
    }
