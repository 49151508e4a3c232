use Rattle.std.proofs.Common.{◌≡◌, ◌+◌, ◌&&◌, ◌||◌, ltb, List, ℕ, length, sym, ap, ◌∙◌}
use Rattle.std.specs.Prelude.{◌==◌, filter}
use Rattle.std.proofs.lemmas.List.{get_or_read}
use Rattle.ttp_base.specs.NodeSet.{below, has_node, with_node}
use Rattle.ttp_base.proofs.NodeLists.{with_node-filter}
use Rattle.ttp_base.proofs.NodeSets.{same_sieve}
use Rattle.run_costs.specs.States.{off_state, state_at}
use Rattle.run_costs.specs.Told.{is_hurt_by}
use Rattle.run_costs.proofs.Nodes.{counted-in, counted-out}
use Rattle.run_costs.proofs.seen_costs.seen.hurt_with.Goals as goal
use Rattle.run_costs.proofs.seen_costs.seen.hurt_with.Goals.{then-is_hurt, else-is_hurt}

pub loop-k-preserved : goal.loop-k-preserved
loop-k-preserved c = λ p are.
    let states = c.args.states.now in
    let k = c.loop-k.k in
    let n = length states in
    let h = λ (j : ℕ). is_hurt_by (state_at states j).entry (has_node c.args.correct j) in
    let so_far = λ (j : ℕ). (ltb j k && h j) || p j in
    let then_so = λ (j : ℕ). (ltb j (k + 1) && h j) || p j in
    let at : state_at states k ≡ c.index-states-k.result =
    sym (get_or_read states k c.index-states-k.result c.loop-k-test.true c.index-states-k.is off_state) in
    let told : h k ≡ c.is_hurt.result =
    (λ i. is_hurt_by (at i).entry (sym c.has.ensures i)) ∙ sym c.is_hurt.ensures in
    let before : c.loop-k.all ≡ filter so_far (below n) = c.loop-k.invariant p are in
    elim c.if-is_hurt.branch [
      | then-is_hurt w ↦
          w.all-is ∙ w.with-all.ensures ∙ ap (λ (s : List ℕ). with_node s k) before
          ∙ with_node-filter so_far n k c.loop-k-test.true c.requires
          ∙ same_sieve (λ j. (j == k) || so_far j) then_so n
          (λ j within. counted-in h p k j (told ∙ w.if-is_hurt.true))
      | else-is_hurt w ↦
          w.all-is ∙ before
          ∙ same_sieve so_far then_so n (λ j within. counted-out h p k j (told ∙ w.if-is_hurt.false))
    ]
