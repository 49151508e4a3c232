use Rattle.std.proofs.Common.{◌≡◌, true, false, cond, ap, sym, ◌∙◌, rules, option_map, Some}
use Rattle.std.specs.List.{find}
use Rattle.ttp_world.specs.Hypothesis.{slots_since_start}
use Rattle.ttp_world.specs.Returning.{has_four_before, lacks_four_after}
use Rattle.hypothesis.specs.Standing.{told_start}
use Rattle.broken_faults.specs.Faults.{few_in}
use Rattle.broken_faults.proofs.Enough.{has-four, at-start}
use Rattle.broken_faults.proofs.few.too_few_left.Goals as goal

pub few_since-requires-clause-enough : goal.few_since-requires-clause-enough
few_since-requires-clause-enough c =
    has-four c.args.list.now c.args.script.now (told_start c.args.start) c.args.start.slot c.seen_before-seen.result
    c.requires.valid c.seen_before-seen.ensures ∙ sym c.has_four_steady.ensures ∙ search rules

pub returns-then-has_four_steady : goal.returns-then-has_four_steady
returns-then-has_four_steady c =
    let list = c.args.list.now in
    let script = c.args.script.now in
    let start = told_start c.args.start in
    let enough : has_four_before list script start start.slot ≡ true =
    has-four list script start start.slot c.seen_before-seen.result c.requires.valid c.seen_before-seen.ensures
    ∙ sym c.has_four_steady.ensures ∙ search rules in
    c.few_since.ensures ∙ sym (ap (λ b. option_map (few_in list script start) (cond b
    (find (lacks_four_after list script start) (slots_since_start script start)) (Some start.slot))) enough)

pub returns-else-has_four_steady : goal.returns-else-has_four_steady
returns-else-has_four_steady c =
    let list = c.args.list.now in
    let script = c.args.script.now in
    let start = told_start c.args.start in
    let lacks : has_four_before list script start start.slot ≡ false =
    has-four list script start start.slot c.seen_before-seen.result c.requires.valid c.seen_before-seen.ensures
    ∙ sym c.has_four_steady.ensures ∙ search rules in
    ap Some (c.few_after.ensures start.slot c.seen_before-seen.ensures ∙ at-start list script start lacks)
    ∙ sym (ap (λ b. option_map (few_in list script start) (cond b
    (find (lacks_four_after list script start) (slots_since_start script start)) (Some start.slot))) lacks)
