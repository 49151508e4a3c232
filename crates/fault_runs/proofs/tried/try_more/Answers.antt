use Rattle.fault_runs.proofs.Words.{◌≡◌, ap, ◌∙◌, Script, cost_words, summary, summary_with, run_line}
use Rattle.fault_runs.proofs.Words.{is_same_cost}
use Rattle.std.specs.Str.{bytes_eq}
use Rattle.campaign.specs.Cost.{says_yes}
use Rattle.campaign.specs.Lines.{fault_line}
use Rattle.fault_runs.proofs.Orders.{cost-ordered}
use Rattle.fault_runs.proofs.tried.try_more.Goals as goal

pub form_words-requires-clause-hurt : goal.form_words-requires-clause-hurt
form_words-requires-clause-hurt c =
    cost-ordered c.args.common.now.list.now c.args.more.now c.in_ok-cost.cost c.requires.may.valid
    c.in_ok-cost.ensures.cost

pub returns-clause-tried : goal.returns-clause-tried
returns-clause-tried c =
    let list = c.args.common.now.list.now in
    let script = c.args.common.now.script.now in
    let fault = c.args.fault.now in
    let more = c.args.more.now in
    let own = (summary list script).cost in
    let told = summary_with list script fault in
    let cost : c.in_ok-cost.cost ≡ told.cost =
    c.in_ok-cost.ensures.cost ∙ ap (λ (s : Script). (summary list s).cost) c.requires.more in
    let yes : c.in_ok-shown.shown.1 ≡ told.yes =
    c.in_ok-shown.ensures.yes ∙ ap (λ (s : Script). says_yes list s) c.requires.more in
    let formed : c.form_words.new.words ≡ cost_words list (summary list more).cost =
    c.in_ok-form_words.ensures ∙ ap (cost_words list) c.in_ok-cost.ensures.cost in
    let line : c.in_ok-shown.shown.0 ≡ run_line list script fault =
    c.in_ok-shown.ensures.line (summary list more).cost (c.bytes.ensures ∙ formed)
    ∙ ap (λ (s : Script). fault_line list fault (summary list s)) c.requires.more in
    let words : c.bytes-2.result.now ≡ cost_words list told.cost =
    c.bytes-2.ensures ∙ formed
    ∙ ap (λ (s : Script). cost_words list (summary list s).cost) c.requires.more in
    let same : c.eq-is_same.result ≡ is_same_cost list own told.cost =
    c.eq-is_same.ensures ∙ (λ i. bytes_eq (c.requires.may.own i) (words i)) in
    λ i. record { line = line i; yes = yes i; cost = cost i; is_same = same i }
