use Rattle.std.proofs.Common.{List, ℕ, ◌≡◌, ◌++◌, ap, subst, ◌∙◌}
use Rattle.std.specs.Prelude.{codes, OnOk}
use Rattle.campaign.specs.CostText.{test_words}
use Rattle.fault_runs.specs.Told.{run_words}
use Rattle.fault_runs.proofs.LineWords.{own-behind}
use Rattle.fault_runs.proofs.campaign_text.lines.put_own.Goals as goal

pub returns : goal.returns
returns c = λ cost are.
    let list = c.args.list.now in
    let script = c.args.script.now in
    let text = c.args.text.now in
    let run = run_words (test_words list script) c.args.words.now in
    let behind =
    ap (λ (w : List ℕ). w ++ codes "-\n")
    (c.in_ok-put_run_words.ensures.text ∙ ap (λ (w : List ℕ). w ++ run) c.in_ok-put.ensures)
    ∙ own-behind list script cost text c.args.words.now are in
    subst (λ (w : List ℕ). OnOk c.put-2.result (c.put-2.new.self ≡ w)) behind c.put-2.ensures
