use Rattle.std.proofs.Common.{ap, sym, ◌∙◌}
use Rattle.hypothesis.specs.Standing.{told_start_if}
use Rattle.broken_rules.specs.Rules.{faults_if}
use Rattle.broken_rules.proofs.rules.faults_if.Goals as goal

pub broken_faults-requires-clause-start : goal.broken_faults-requires-clause-start
broken_faults-requires-clause-start c = sym c.requires.start ∙ ap told_start_if c.in-Some.is

pub returns-in-Some : goal.returns-in-Some
returns-in-Some c =
    c.broken_faults.ensures.exact
    ∙ ap (faults_if c.args.list.now c.args.script.now) (ap told_start_if (sym c.in-Some.is) ∙ c.requires.start)

pub returns-in-None : goal.returns-in-None
returns-in-None c =
    c.no_faults.ensures
    ∙ ap (faults_if c.args.list.now c.args.script.now) (ap told_start_if (sym c.in-None.is) ∙ c.requires.start)
