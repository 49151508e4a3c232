use Rattle.hypothesis.proofs.Words.{◌≡◌, ◌<◌, true, false, ◌&&◌, ap, sym, ◌∙◌, rules, arith, most_nodes, is_long_faulty}
use Rattle.hypothesis.proofs.Words.{is_apart, nodes-most, told_start, and-true, and-false}
use Rattle.hypothesis.proofs.LongFaulty.{long-faulty}
use Rattle.hypothesis.proofs.arms.is_long_faulty.Goals as goal

pub returns-then-not-is_apart : goal.returns-then-not-is_apart
returns-then-not-is_apart c =
    let start = told_start c.args.start in
    let apart : is_apart c.args.list.now c.args.script.now start c.args.slot ≡ false =
    sym (c.is_apart.ensures start c.requires.newest) ∙ search rules in
    sym (ap (λ b. is_long_faulty c.args.list.now c.args.script.now start c.args.node c.args.slot && b) apart
    ∙ and-false (is_long_faulty c.args.list.now c.args.script.now start c.args.node c.args.slot))

pub slot_at-requires-clause-kept : goal.slot_at-requires-clause-kept
slot_at-requires-clause-kept c = let few = nodes-most c.args.list.now c.requires.valid in omega arith

pub returns : goal.returns
returns c =
    let list = c.args.list.now in
    let script = c.args.script.now in
    let start = told_start c.args.start in
    let node = c.args.node in
    let slot = c.args.slot in
    let few = nodes-most list c.requires.valid in
    let small : node < most_nodes = omega arith in
    let apart : is_apart list script start slot ≡ true =
    sym (c.is_apart.ensures start c.requires.newest) ∙ search rules in
    c.has.ensures ∙ (c.slot_at.ensures list script start c.requires.newest).stayed node small
    ∙ sym (long-faulty list script start node slot (omega arith) (omega (arith, c.requires.valid.count)) apart)
    ∙ sym (ap (λ b. is_long_faulty list script start node slot && b) apart
    ∙ and-true (is_long_faulty list script start node slot))
