use Rattle.std.proofs.Common.{◌≡◌, None, ap, sym, subst, ◌∙◌, rules}
use Rattle.ttp_world.specs.Hypothesis.{start_of}
use Rattle.broken_rules.specs.Rules.{test_answer, answer_by, first_named, first_broken, NameAllSlots}
use Rattle.broken_rules.specs.Rules as defined
use Rattle.broken_rules.proofs.Told.{rules_of, named, yes, each, clocks, not-named}
use Rattle.broken_rules.proofs.rules.broken_rules.Goals as goal

pub broken_conditions-conditions-requires-clause-clocks : goal.broken_conditions-conditions-requires-clause-clocks
broken_conditions-conditions-requires-clause-clocks c =
    c.clocks_slot.ensures ∙ ap defined.clocks_slot c.answer_by-answer.ensures
    ∙ clocks c.args.list.now c.args.script.now c.has_arm-armed.result

pub returns-then-says_yes : goal.returns-then-says_yes
returns-then-says_yes c =
    let list = c.args.list.now in
    let script = c.args.script.now in
    let answer : c.answer_by-answer.result ≡ test_answer list script =
    c.answer_by-answer.ensures ∙ ap (answer_by list script) c.has_arm-armed.ensures in
    let none : first_named (test_answer list script) ≡ None =
    ap first_named (sym answer)
    ∙ not-named (first_named c.answer_by-answer.result) (sym c.says_yes.ensures ∙ search rules) in
    let whole : rules_of c.answer_by-answer.result c.broken_conditions-conditions.result c.no_faults.result None
    ≡ defined.broken_rules list script =
    (λ i. rules_of (answer i) (c.broken_conditions-conditions.ensures i) (c.no_faults.ensures i) None)
    ∙ yes list script none in
    record {
      exact = whole;
      slots = subst (NameAllSlots list script) (sym whole) (each list script);
      named = ap first_broken whole ∙ named list script ∙ ap first_named (sym answer);
    }

pub returns : goal.returns
returns c =
    let list = c.args.list.now in
    let script = c.args.script.now in
    let answer : c.answer_by-answer.result ≡ test_answer list script =
    c.answer_by-answer.ensures ∙ ap (answer_by list script) c.has_arm-armed.ensures in
    let whole : rules_of c.answer_by-answer.result c.broken_conditions-conditions.result c.faults_if-faults.result
    c.arm_by.result ≡ defined.broken_rules list script =
    (λ i. rules_of (answer i) (c.broken_conditions-conditions.ensures i) (c.faults_if-faults.ensures i)
    ((c.arm_by.ensures ∙ (λ j. defined.arm_by list script (c.has_arm-armed.ensures j) (start_of list script)
    (c.faults_if-faults.ensures j).lost)) i)) in
    record {
      exact = whole;
      slots = subst (NameAllSlots list script) (sym whole) (each list script);
      named = ap first_broken whole ∙ named list script ∙ ap first_named (sym answer);
    }
