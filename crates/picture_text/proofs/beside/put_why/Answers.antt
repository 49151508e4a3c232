use Rattle.picture_text.proofs.Words.{ap, sym, ◌∙◌, NodeShown}
use Rattle.shown_slot.specs.Nodes.{is_leaving_word}
use Rattle.shown_slot.specs.Trace.{node_at}
use Rattle.ttp_base.proofs.Puts.{puts_two, puts_where, puts_unless}
use Rattle.picture_text.proofs.beside.put_why.Goals as goal

pub returns-then-is_leaving_word : goal.returns-then-is_leaving_word
returns-then-is_leaving_word g c =
    let node = node_at c.args.shown.now c.args.number in
    let leaving = ap (λ (n : NodeShown). is_leaving_word n.word) (sym c.node_at-word.ensures) in
    puts_where (is_leaving_word node.word) _ (leaving ∙ sym c.is_leaving_word.ensures ∙ c.if-is_leaving_word.true)
    (puts_two (rw (c.corner-at.ensures.x, c.corner-at.ensures.y, c.node_at-word.ensures) at c.make_why_box.ensures)
    (rw (c.word_text.ensures.text, c.corner-at.ensures.x, c.corner-at.ensures.y, c.node_at-word.ensures)
    at c.make_text_of.ensures)
    c.write.ensures c.write-then-is_leaving_word.ensures)

pub returns-else-is_leaving_word : goal.returns-else-is_leaving_word
returns-else-is_leaving_word g c =
    let node = node_at c.args.shown.now c.args.number in
    let leaving = ap (λ (n : NodeShown). is_leaving_word n.word) (sym c.node_at-word.ensures) in
    puts_unless (is_leaving_word node.word) _ (leaving ∙ sym c.is_leaving_word.ensures ∙ c.if-is_leaving_word.false)
