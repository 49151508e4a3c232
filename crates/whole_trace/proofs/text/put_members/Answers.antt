use Rattle.std.proofs.Common.{Bool, ℕ, List, ◌*◌, ◌++◌, ap, sym, ◌∙◌}
use Rattle.ttp_base.specs.Text.{hex}
use Rattle.ttp_base.proofs.Hex.{six_digits, four_digits}
use Rattle.ttp_world.specs.Medl.{member_bytes}
use Rattle.whole_trace.proofs.text.put_members.Goals as goal

pub returns-then-wide-clause-text : goal.returns-then-wide-clause-text
returns-then-wide-clause-text c =
    c.put_hex.ensures
    ∙ ap (λ (digits : List ℕ). c.args.line.now ++ digits) (ap (hex 6) c.from.ensures ∙ six_digits c.args.members)
    ∙ ap (λ (w : Bool). c.args.line.now ++ hex (2 * member_bytes w) c.args.members) (sym c.if-wide.true)

pub returns-else-wide-clause-text : goal.returns-else-wide-clause-text
returns-else-wide-clause-text c =
    c.put_hex-else-wide.ensures
    ∙ ap (λ (digits : List ℕ). c.args.line.now ++ digits)
    (ap (hex 4) c.from-else-wide.ensures ∙ four_digits c.args.members)
    ∙ ap (λ (w : Bool). c.args.line.now ++ hex (2 * member_bytes w) c.args.members) (sym c.if-wide.false)
