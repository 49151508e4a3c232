use Rattle.std.proofs.Common.{List, ℕ, set, ap, ◌∙◌, refl, arith, []}
use Rattle.std.proofs.lemmas.List.{get_or_default}
unfoldable use Rattle.ttp_base.specs.NodeSet.{with_node}
use Rattle.why_story.proofs.Marked.{AreMarked-more}
use Rattle.why_story.proofs.marks.Marks.mark.Goals as goal

pub returns-then-spot-lt-MOST_NODES : goal.returns-then-spot-lt-MOST_NODES
returns-then-spot-lt-MOST_NODES c = λ count spots are.
    let sets = c.args.self.now.sets in
    let s = c.args.spot in
    AreMarked-more count spots c.args.self.now _ s are
    (omega (arith, c.if-slot-len.true, c.len.ensures, are.slots)) refl
    (ap (set sets.items s.slot)
    (c.with.ensures
    ∙ ap (λ (x : List ℕ). with_node x s.node)
    (c.index.ensures
    ∙ get_or_default sets.items s.slot c.index.result.now []
    (omega (arith, c.if-slot-len.true, c.len.ensures, sets.ok)))))
