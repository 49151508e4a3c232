use Rattle.std.proofs.Common.{List, ℕ, ◌≡◌, ◌++◌, ap, subst}
use Rattle.std.specs.Prelude.{codes, OnOk}
use Rattle.pair_text.specs.Words.{pairs_head_words}
use Rattle.pair_text.proofs.lines.put_head.Goals as goal

pub returns : goal.returns
returns c =
    subst (λ (w : List ℕ). OnOk c.put_head_words.result (c.put_head_words.new.text ≡ c.args.text.now ++ w))
    (ap (λ (n : ℕ). pairs_head_words (codes "ttplab pairs 1 nodes ") n c.args.script.now.slots c.args.first c.args.last
    c.args.within)
    c.nodes.ensures)
    c.put_head_words.ensures
