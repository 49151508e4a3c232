use Rattle.std.proofs.Common.{List, ℕ, true, false, ◌≡◌, ◌++◌, ap, sym, subst, ◌∙◌}
use Rattle.std.specs.Prelude.{OnOk}
use Rattle.ttp_world.specs.Hypothesis.{keeps}
use Rattle.ttp_world.specs.Returning.{has_arm, returns}
use Rattle.campaign.specs.CostText.{test_words, test_words_if}
use Rattle.fault_runs.specs.Told.{keep_words, back_words}
use Rattle.fault_runs.proofs.LineWords.{keep_words-unended, back_words-unended}
use Rattle.fault_runs.proofs.campaign_text.lines.put_test.Goals as goal

pub returns-then-has_arm-clause-text : goal.returns-then-has_arm-clause-text
returns-then-has_arm-clause-text c =
    let list = c.args.list.now in
    let script = c.args.script.now in
    let armed : has_arm script ≡ true = sym c.has_arm.ensures ∙ c.if-has_arm.true in
    let words : back_words c.returns.result ≡ test_words list script =
    ap back_words c.returns.ensures ∙ back_words-unended (returns list script)
    ∙ sym (ap (test_words_if list script) armed) in
    subst (λ (w : List ℕ). OnOk c.put_back.result (c.put_back.new.text ≡ c.args.text.now ++ w)) words
    c.put_back.ensures.text

pub returns-else-has_arm-clause-text : goal.returns-else-has_arm-clause-text
returns-else-has_arm-clause-text c =
    let list = c.args.list.now in
    let script = c.args.script.now in
    let unarmed : has_arm script ≡ false = sym c.has_arm.ensures ∙ c.if-has_arm.false in
    let words : keep_words c.keeps.result ≡ test_words list script =
    ap keep_words c.keeps.ensures ∙ keep_words-unended (keeps list script)
    ∙ sym (ap (test_words_if list script) unarmed) in
    subst (λ (w : List ℕ). OnOk c.put_keep.result (c.put_keep.new.text ≡ c.args.text.now ++ w)) words
    c.put_keep.ensures.text
