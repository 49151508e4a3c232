use Rattle.std.proofs.Common.{true, false, ◌≡◌, ap, sym, ◌∙◌}
use Rattle.ttp_world.specs.Returning.{has_arm}
use Rattle.ttp_world.specs.Trace.{keep_line, back_line}
use Rattle.ttp_world.specs.declared.keep.Back.{Back}
use Rattle.ttp_world.specs.declared.keep.Keep.{Keep}
use Rattle.campaign.specs.CostText.{unended, test_words_if}
use Rattle.margin_runs.proofs.scripts.test_of.Goals as goal

pub returns-then-has_arm : goal.returns-then-has_arm
returns-then-has_arm c =
    let list = c.args.list.now in
    let script = c.args.script.now in
    let armed : has_arm script ≡ true = sym c.has_arm.ensures ∙ c.if-has_arm.true in
    c.owed_words.ensures ∙ ap (λ (b : Back). unended (back_line b)) c.returns.ensures
    ∙ sym (ap (test_words_if list script) armed)

pub returns-else-has_arm : goal.returns-else-has_arm
returns-else-has_arm c =
    let list = c.args.list.now in
    let script = c.args.script.now in
    let unarmed : has_arm script ≡ false = sym c.has_arm.ensures ∙ c.if-has_arm.false in
    c.kept_words.ensures ∙ ap (λ (k : Keep). unended (keep_line k)) c.keeps.ensures
    ∙ sym (ap (test_words_if list script) unarmed)
