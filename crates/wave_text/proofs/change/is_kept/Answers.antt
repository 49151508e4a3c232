use Rattle.wave_text.proofs.Words.{◌≡◌, sym, subst, NodeVariable, node_value}
use Rattle.wave_text.proofs.change.is_kept.Goals as goal

pub returns-in-Members : goal.returns-in-Members
returns-in-Members c = λ same width.
    subst (λ (v : NodeVariable). node_value width v c.args.before.now ≡ node_value width v c.args.now.now)
    (sym c.in-Members.is) (c.show_same_members.ensures same width)

pub returns-then-before-now : goal.returns-then-before-now
returns-then-before-now c = c.is_kept_by_word.ensures
