use Rattle.std.proofs.Common.{sym, ◌∙◌, arith}
use Rattle.entry_causes.proofs.Walks.{said-from, said-here, said-none, said-on, said-started}
use Rattle.entry_causes.proofs.said.said.Goals as goal

pub returns-in-None-clause-value : goal.returns-in-None-clause-value
returns-in-None-clause-value c =
    let run = c.args.run.now in
    sym (c.loop-at.invariant.is
    ∙ said-here run.list run.script c.loop-at.at c.loop-at.who c.args.of (omega arith)
    (sym c.speaks_of.ensures ∙ c.if-speaks_of.true)
    (sym c.joined_from.ensures.value ∙ c.in-None.is))

pub returns-then-starts-clause-value : goal.returns-then-starts-clause-value
returns-then-starts-clause-value c =
    let run = c.args.run.now in
    sym (c.loop-at.invariant.is
    ∙ said-started run.list run.script c.loop-at.at c.loop-at.who c.args.of c.in-Some.from (omega arith)
    (sym c.speaks_of.ensures ∙ c.if-speaks_of.true)
    (sym c.joined_from.ensures.value ∙ c.in-Some.is) (sym c.starts.ensures ∙ c.if-starts.true))

pub returns-clause-value : goal.returns-clause-value
returns-clause-value c =
    let run = c.args.run.now in
    sym (c.loop-at.invariant.is
    ∙ said-none run.list run.script c.loop-at.at c.loop-at.who c.args.of (omega arith))

pub loop-at-preserved-in-Some : goal.loop-at-preserved-in-Some
loop-at-preserved-in-Some c =
    let run = c.args.run.now in
    record {
      is =
          c.loop-at.invariant.is
          ∙ said-from run.list run.script c.loop-at.at c.loop-at.who c.args.of c.in-Some.from (omega arith)
          (sym c.speaks_of.ensures ∙ c.if-speaks_of.true)
          (sym c.joined_from.ensures.value ∙ c.in-Some.is) (sym c.starts.ensures ∙ c.if-starts.false);
      node = c.in-Some.ensures.node;
      within = omega arith;
    }

pub loop-at-preserved : goal.loop-at-preserved
loop-at-preserved c =
    let run = c.args.run.now in
    record {
      is =
          c.loop-at.invariant.is
          ∙ said-on run.list run.script c.loop-at.at c.loop-at.who c.args.of (omega arith)
          (sym c.speaks_of.ensures ∙ c.if-speaks_of.false);
      node = c.loop-at.invariant.node;
      within = omega arith;
    }
