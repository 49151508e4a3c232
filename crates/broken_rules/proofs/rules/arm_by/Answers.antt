use Rattle.std.proofs.Common.{◌≡◌, true, false, ap, sym, ◌∙◌, rules}
use Rattle.ttp_world.specs.Hypothesis.{start_of}
use Rattle.broken_rules.proofs.FromBelow.{nothing-found}
use Rattle.hypothesis.specs.Standing.{told_start_if}
use Rattle.broken_rules.specs.Rules.{arm_by}
use Rattle.broken_rules.proofs.Told.{arm-beside}
use Rattle.broken_rules.proofs.rules.arm_by.Goals as goal

pub returns-then-not-armed : goal.returns-then-not-armed
returns-then-not-armed c =
    let list = c.args.list.now in
    let script = c.args.script.now in
    let none : c.args.armed ≡ false = search rules in
    sym (ap (λ armed. arm_by list script armed (start_of list script) c.args.lost) none)

pub returns-then-is_some : goal.returns-then-is_some
returns-then-is_some c =
    let list = c.args.list.now in
    let script = c.args.script.now in
    arm-beside list script c.args.armed (start_of list script) c.args.lost (search rules)

pub broken_arm-requires-clause-start : goal.broken_arm-requires-clause-start
broken_arm-requires-clause-start c = sym c.requires.start ∙ ap told_start_if c.in-Some.is

pub returns-in-Some : goal.returns-in-Some
returns-in-Some c =
    let armed : c.args.armed ≡ true = search rules in
    let none = nothing-found c.args.lost (search rules) in
    let start = ap told_start_if (sym c.in-Some.is) ∙ c.requires.start in
    c.broken_arm.ensures.exact
    ∙ (λ i. arm_by c.args.list.now c.args.script.now (sym armed i) (start i) (sym none i))

pub returns-in-None : goal.returns-in-None
returns-in-None c =
    let armed : c.args.armed ≡ true = search rules in
    let none = nothing-found c.args.lost (search rules) in
    let start = ap told_start_if (sym c.in-None.is) ∙ c.requires.start in
    (λ i. arm_by c.args.list.now c.args.script.now (sym armed i) (start i) (sym none i))
