use Rattle.std.proofs.Common.{List, ℕ, ◌≡◌, [], ◌∷◌, ◌++◌, ap, sym, subst, ◌∙◌}
use Rattle.std.specs.Prelude.{map, codes, OnOk}
use Rattle.std.specs.Fmt.{decimal}
use Rattle.ttp_base.proofs.Gathered.{gather-behind}
use Rattle.campaign.specs.declared.cost.Leave.{Leave}
use Rattle.campaign.specs.CostText.{listed, leave_word, span_words, members_word}
use Rattle.fault_runs.proofs.campaign_text.cost_words.put_cost.Goals as goal

pub returns : goal.returns
returns c =
    let list = c.args.list.now in
    let cost = c.args.cost.now in
    let text = c.args.text.now in
    let left = listed (map leave_word cost.left) in
    let hurt = listed (map decimal cost.hurt) in
    let split = span_words cost.split in
    let end = listed (map (members_word list) cost.end) in
    let leaves =
    c.in_ok-put_leaves.ensures
    ∙ ap (λ (xs : List Leave). c.put.new.self ++ listed (map leave_word xs)) c.as_slice.ensures
    ∙ ap (λ (w : List ℕ). w ++ left) c.in_ok-put.ensures in
    let nodes =
    c.in_ok-put_nodes.ensures
    ∙ ap (λ (ks : List ℕ). c.put-2.new.self ++ listed (map decimal ks)) c.requires.hurt
    ∙ ap (λ (w : List ℕ). w ++ hurt)
    (c.in_ok-put-2.ensures ∙ ap (λ (w : List ℕ). w ++ codes " hurt ") leaves) in
    let span =
    c.in_ok-put_span.ensures
    ∙ ap (λ (w : List ℕ). w ++ split)
    (c.in_ok-put-3.ensures ∙ ap (λ (w : List ℕ). w ++ codes " split ") nodes) in
    let sets =
    ap (λ (ms : List (List ℕ)). c.put-4.new.self ++ listed (map (members_word list) ms)) c.as_slice-2.ensures
    ∙ ap (λ (w : List ℕ). w ++ end)
    (c.in_ok-put-4.ensures ∙ ap (λ (w : List ℕ). w ++ codes " end ") span)
    ∙ sym (gather-behind text (codes "left " ∷ left ∷ codes " hurt " ∷ hurt ∷ codes " split " ∷ split ∷ codes " end "
    ∷ end ∷ [])) in
    subst (λ (w : List ℕ). OnOk c.put_memberships.result (c.put_memberships.new.text ≡ w)) sets
    c.put_memberships.ensures
