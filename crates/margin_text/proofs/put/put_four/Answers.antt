use Rattle.std.proofs.Common.{List, ℕ, ◌++◌, ap, ◌∙◌}
use Rattle.ttp_base.specs.Text.{hex}
use Rattle.ttp_base.proofs.Hex.{four_digits}
use Rattle.margin_text.proofs.put.put_four.Goals as goal

pub returns-clause-text : goal.returns-clause-text
returns-clause-text c =
    c.put_hex.ensures ∙ ap (λ (v : ℕ). c.args.line.now ++ hex 4 v) c.from.ensures
    ∙ ap (λ (w : List ℕ). c.args.line.now ++ w) (four_digits c.args.bits)
