use Rattle.chart_text.proofs.Words.{◌++◌, ◌∙◌, ℕ, List, Bool, [], cond, ap, sym, codes, append_assoc, ne_eqb, hurt_word}
use Rattle.chart_text.proofs.listed.put_lost_nodes.Goals as goal

pub returns-then-hurt-ne0-clause-text : goal.returns-then-hurt-ne0-clause-text
returns-then-hurt-ne0-clause-text c =
    let old = c.args.buffer.now.text in
    let word = hurt_word c.args.text.now in
    c.put_bytes-then-hurt-ne0-2.ensures.text
    ∙ ap (λ (t : List ℕ). t ++ codes ")")
    (c.put_bytes-then-hurt-ne0.ensures.text
    ∙ (λ i. c.put_bytes.ensures.text i ++ c.hurt_word.ensures.value i))
    ∙ ap (λ (t : List ℕ). t ++ codes ")") (append_assoc old (codes " (") word)
    ∙ append_assoc old (codes " (" ++ word) (codes ")")
    ∙ ap (λ (b : Bool). old ++ cond b [] (codes " (" ++ word ++ codes ")"))
    (sym (ne_eqb c.args.hurt 0 c.if-hurt-ne0.true))
