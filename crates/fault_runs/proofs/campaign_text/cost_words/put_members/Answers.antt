use Rattle.std.proofs.Common.{List, ℕ, Bool, true, false, ◌≡◌, ◌++◌, ◌*◌, ap, sym, subst, ◌∙◌}
use Rattle.std.specs.Prelude.{OnOk}
use Rattle.ttp_base.specs.NodeSet.{set_bits}
use Rattle.ttp_base.specs.Text.{hex}
use Rattle.ttp_world.specs.Medl.{is_wide, member_bytes}
use Rattle.campaign.specs.CostText.{members_word}
use Rattle.fault_runs.proofs.campaign_text.cost_words.put_members.Goals as goal

pub returns-then-is_wide : goal.returns-then-is_wide
returns-then-is_wide c =
    let list = c.args.list.now in
    let wide : is_wide list ≡ true = sym c.is_wide.ensures ∙ c.if-is_wide.true in
    let digits : hex 6 c.bits.result ≡ members_word list c.args.members =
    ap (hex 6) c.bits.ensures
    ∙ sym (ap (λ (b : Bool). hex (2 * member_bytes b) (set_bits c.args.members)) wide) in
    subst (λ (w : List ℕ). OnOk c.put_six_digits.result (c.put_six_digits.new.self ≡ c.args.text.now ++ w)) digits
    c.put_six_digits.ensures

pub returns-else-is_wide : goal.returns-else-is_wide
returns-else-is_wide c =
    let list = c.args.list.now in
    let narrow : is_wide list ≡ false = sym c.is_wide.ensures ∙ c.if-is_wide.false in
    let digits : hex 4 c.bits-else-is_wide.result ≡ members_word list c.args.members =
    ap (hex 4) c.bits-else-is_wide.ensures
    ∙ sym (ap (λ (b : Bool). hex (2 * member_bytes b) (set_bits c.args.members)) narrow) in
    subst (λ (w : List ℕ). OnOk c.put_four_digits.result (c.put_four_digits.new.self ≡ c.args.text.now ++ w)) digits
    c.put_four_digits.ensures
