use Rattle.std.proofs.Common.{◌∙◌, arith}
use Rattle.why_story.proofs.Marked.{has-at}
use Rattle.why_story.proofs.marks.Marks.has.Goals as goal

pub returns-then-spot-lt-MOST_NODES-clause-inside : goal.returns-then-spot-lt-MOST_NODES-clause-inside
returns-then-spot-lt-MOST_NODES-clause-inside c = λ count spots are slot node.
    c.has.ensures
    ∙ has-at count spots c.args.self.now c.args.spot c.index.result.now c.index.result.now are
    (omega (arith, c.if-spot-lt-MOST_NODES.true, c.len.ensures)) slot node c.index.ensures

pub returns-then-spot-lt-MOST_NODES-clause-whole : goal.returns-then-spot-lt-MOST_NODES-clause-whole
returns-then-spot-lt-MOST_NODES-clause-whole c = λ count spots are within.
    c.has.ensures
    ∙ has-at count spots c.args.self.now c.args.spot c.index.result.now c.index.result.now are
    (omega (arith, c.if-spot-lt-MOST_NODES.true, c.len.ensures))
    (omega (arith, c.if-spot-lt-MOST_NODES.true, c.len.ensures, are.slots))
    c.if-spot-lt-MOST_NODES.true.1 c.index.ensures
