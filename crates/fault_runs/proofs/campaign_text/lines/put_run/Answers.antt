use Rattle.std.proofs.Common.{List, ℕ, ◌++◌, ap, ◌∙◌}
use Rattle.ttp_base.specs.Text.{newline}
use Rattle.campaign.specs.CostText.{test_words, fault_words}
use Rattle.fault_runs.specs.Told.{run_words}
use Rattle.fault_runs.proofs.LineWords.{fault-behind}
use Rattle.fault_runs.proofs.campaign_text.lines.put_run.Goals as goal

pub returns-clause-line : goal.returns-clause-line
returns-clause-line c = λ cost are.
    let list = c.args.list.now in
    let script = c.args.script.now in
    let fault = c.args.fault.now in
    let run = run_words (test_words list script) c.args.words.now in
    c.in_ok-put.ensures
    ∙ ap (λ (w : List ℕ). w ++ newline)
    (c.in_ok-put_fault.ensures
    ∙ ap (λ (w : List ℕ). w ++ fault_words fault)
    (c.in_ok-yes.ensures.text ∙ ap (λ (w : List ℕ). w ++ run) c.in_ok-put_place.ensures))
    ∙ fault-behind list script fault cost c.args.text.now c.args.words.now are
