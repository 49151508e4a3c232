use Rattle.std.proofs.Common.{List, ℕ, Bool, true, false, ◌≡◌, ◌++◌, ◌*◌, ap, sym, ◌∙◌}
use Rattle.ttp_base.specs.NodeSet.{set_bits}
use Rattle.ttp_base.specs.Text.{hex}
use Rattle.ttp_world.specs.Medl.{is_wide, member_bytes}
use Rattle.margin_text.proofs.put.put_members.Goals as goal

pub returns-then-is_wide-clause-text : goal.returns-then-is_wide-clause-text
returns-then-is_wide-clause-text c =
    let list = c.args.list.now in
    let wide : is_wide list ≡ true = sym c.is_wide.ensures ∙ c.if-is_wide.true in
    c.put_six.ensures.text
    ∙ ap (λ (w : List ℕ). c.args.line.now ++ w) (ap (hex 6) c.bits.ensures
    ∙ sym (ap (λ (b : Bool). hex (2 * member_bytes b) (set_bits c.args.members)) wide))

pub returns-else-is_wide-clause-text : goal.returns-else-is_wide-clause-text
returns-else-is_wide-clause-text c =
    let list = c.args.list.now in
    let narrow : is_wide list ≡ false = sym c.is_wide.ensures ∙ c.if-is_wide.false in
    c.put_four.ensures.text
    ∙ ap (λ (w : List ℕ). c.args.line.now ++ w) (ap (hex 4) c.bits-else-is_wide.ensures
    ∙ sym (ap (λ (b : Bool). hex (2 * member_bytes b) (set_bits c.args.members)) narrow))
