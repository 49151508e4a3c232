use Rattle.std.proofs.Common.{List, ℕ, ◌≡◌, [], ◌∷◌, ◌++◌, ap, sym, subst, ◌∙◌}
use Rattle.std.specs.Prelude.{codes, OnOk}
use Rattle.ttp_base.specs.Text.{newline}
use Rattle.ttp_base.proofs.Gathered.{gather-behind}
use Rattle.campaign.specs.CostText.{fault_words}
use Rattle.campaign.specs.Lines.{place_words}
use Rattle.fault_runs.specs.Told.{told_summary}
use Rattle.fault_pairs.specs.PairText.{test_and_cost, counts_words, first_fault_line}
use Rattle.pair_text.proofs.lines.put_first.Goals as goal

pub returns : goal.returns
returns c = λ one is.
    let list = c.args.list.now in
    let text = c.args.text.now in
    let fault = c.args.fault.now in
    let counts = counts_words c.args.counts.now in
    let s = told_summary list c.args.more.now c.args.cost.now in
    let run = test_and_cost list s in
    let same = sym is in
    let behind : c.put_fault.new.text ++ newline ≡ text ++ first_fault_line list one s c.args.counts.now =
    ap (λ (w : List ℕ). w ++ newline)
    (c.in_ok-put_fault.ensures
    ∙ ap (λ (w : List ℕ). w ++ fault_words fault)
    (c.in_ok-put-2.ensures
    ∙ ap (λ (w : List ℕ). w ++ codes " fault ")
    (c.in_ok-put_counts.ensures
    ∙ ap (λ (w : List ℕ). w ++ counts)
    (c.in_ok-put.ensures
    ∙ ap (λ (w : List ℕ). w ++ codes " ")
    (c.in_ok-put_run.ensures ∙ ap (λ (w : List ℕ). w ++ run) c.in_ok-put_place.ensures)))))
    ∙ sym (gather-behind text (place_words fault ∷ run ∷ codes " " ∷ counts ∷ codes " fault " ∷ fault_words fault
    ∷ newline ∷ []))
    ∙ (λ i. text ++ (place_words (same i) ++ run ++ codes " " ++ counts
    ++ codes " fault " ++ fault_words (same i) ++ newline)) in
    subst (λ (w : List ℕ). OnOk c.put-3.result (c.put-3.new.self ≡ w)) behind c.put-3.ensures
