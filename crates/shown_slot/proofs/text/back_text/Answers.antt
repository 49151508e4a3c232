use Rattle.std.proofs.Common.{List, ℕ, length, take, ◌-◌, ap, ◌∙◌}
use Rattle.shown_slot.proofs.Texts.{back_feed}
use Rattle.shown_slot.proofs.text.back_text.Goals as goal

pub returns-clause-text : goal.returns-clause-text
returns-clause-text c =
    c.without_feed.ensures ∙ ap (λ (line : List ℕ). take (length line - 1) line) c.back_line.ensures.text
    ∙ (back_feed c.args.back.now).unfed
