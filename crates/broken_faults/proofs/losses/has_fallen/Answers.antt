use Rattle.std.proofs.Common.{◌≡◌, true, false, ◌||◌, ap, sym, ◌∙◌, rules}
use Rattle.ttp_base.specs.NodeSet.{has_node}
use Rattle.ttp_world.proofs.WorldFacts.{has_node-append}
use Rattle.ttp_world.specs.Hypothesis.{jumpers_in}
use Rattle.hypothesis.specs.Standing.{told_start}
use Rattle.broken_faults.specs.Faults.{faulty_in}
use Rattle.broken_faults.proofs.losses.has_fallen.Goals as goal

pub returns-then-has : goal.returns-then-has
returns-then-has c =
    let node = c.args.node in
    let faulty = faulty_in c.args.list.now c.args.script.now (told_start c.args.start) c.args.slot in
    let jumped = jumpers_in c.args.list.now c.args.script.now faulty c.args.slot in
    let has : has_node jumped node ≡ true =
    ap (λ s. has_node s node) (sym c.requires.faults.jumped) ∙ sym c.has.ensures ∙ search rules in
    sym (has_node-append jumped faulty node ∙ ap (λ b. b || has_node faulty node) has)

pub returns : goal.returns
returns c =
    let node = c.args.node in
    let faulty = faulty_in c.args.list.now c.args.script.now (told_start c.args.start) c.args.slot in
    let jumped = jumpers_in c.args.list.now c.args.script.now faulty c.args.slot in
    let has : has_node jumped node ≡ false =
    ap (λ s. has_node s node) (sym c.requires.faults.jumped) ∙ sym c.has.ensures ∙ search rules in
    c.has-2.ensures ∙ c.requires.faults.before node c.requires.node
    ∙ sym (has_node-append jumped faulty node ∙ ap (λ b. b || has_node faulty node) has)
