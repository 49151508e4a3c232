use Rattle.std.proofs.Common.{List, ℕ, ◌≡◌, [], ◌∷◌, ◌++◌, ap, sym, subst, ◌∙◌}
use Rattle.std.specs.Prelude.{OnOk}
use Rattle.ttp_base.proofs.Gathered.{gather-behind}
use Rattle.campaign.specs.Lines.{fault_node}
use Rattle.fault_runs.specs.Told.{told_summary}
use Rattle.fault_pairs.specs.declared.pair.Harm.{Harm}
use Rattle.fault_pairs.specs.Classes.{third_nodes}
use Rattle.fault_pairs.specs.Pairs.{second_apart}
use Rattle.fault_pairs.specs.PairText.{test_and_cost, newly_left, pair_place, pair_harms, pair_faults, pair_line}
use Rattle.pair_text.proofs.lines.put_pair.Goals as goal

pub returns : goal.returns
returns c = λ one slot fault.
    let list = c.args.list.now in
    let text = c.args.text.now in
    let class = c.args.class in
    let pair = c.args.pair.now in
    let own = c.args.own.now in
    let harms = c.args.harms.now in
    let two = pair.two.now in
    let s = told_summary list c.args.both.now c.args.cost.now in
    let run = test_and_cost list s in
    let costs : ℕ → ℕ → Harm → List ℕ = λ k j both.
    pair_harms (newly_left own harms.one) (newly_left own harms.two) (third_nodes k j both harms.one harms.two) in
    let at = sym slot in
    let same = sym fault in
    let first = c.fault_node.ensures ∙ ap fault_node same in
    let second = c.fault_node-2.ensures in
    let behind : c.put_run.new.text ++ pair_faults pair.one.now two
    ≡ text ++ pair_line list class one (second_apart pair.apart two) own harms.one harms.two s =
    ap (λ (w : List ℕ). w ++ pair_faults pair.one.now two)
    (c.in_ok-put_run.ensures
    ∙ ap (λ (w : List ℕ). w ++ run)
    (c.in_ok-put_pair_harms.ensures
    ∙ ap (λ (w : List ℕ). w ++ costs c.fault_node.result c.fault_node-2.result harms.both)
    c.in_ok-put_pair_place.ensures))
    ∙ sym (gather-behind text (pair_place class pair.slot pair.apart pair.one.now two
    ∷ costs c.fault_node.result c.fault_node-2.result harms.both ∷ run ∷ pair_faults pair.one.now two ∷ []))
    ∙ (λ i. text ++ (pair_place class (at i) pair.apart (same i) two
    ++ costs (first i) (second i) (c.requires.harm i) ++ run ++ pair_faults (same i) two)) in
    subst (λ (w : List ℕ). OnOk c.put_pair_faults.result (c.put_pair_faults.new.text ≡ w)) behind
    c.put_pair_faults.ensures
