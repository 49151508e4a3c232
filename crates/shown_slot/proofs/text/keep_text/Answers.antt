use Rattle.std.proofs.Common.{List, ℕ, length, take, ◌-◌, ap, ◌∙◌}
use Rattle.shown_slot.proofs.Texts.{keep_feed}
use Rattle.shown_slot.proofs.text.keep_text.Goals as goal

pub returns-clause-text : goal.returns-clause-text
returns-clause-text c =
    c.without_feed.ensures ∙ ap (λ (line : List ℕ). take (length line - 1) line) c.keep_line.ensures.text
    ∙ (keep_feed c.args.keep.now).unfed
