use Rattle.std.proofs.Common.{◌≡◌, ℕ, true, sym, ap, ◌∙◌}
use Rattle.std.proofs.lemmas.List.{get_or_read}
use Rattle.campaign.specs.Cost.{each_once}
use Rattle.run_costs.specs.States.{off_state, state_at, firm_of, firm_sets}
use Rattle.run_costs.proofs.Distinct.{item-in, item-out}
use Rattle.run_costs.proofs.seen_costs.sets.memberships.Goals as goal
use Rattle.run_costs.proofs.seen_costs.sets.memberships.Goals.{in-Some+in_ok-add_once, in_default}

pub loop-k-preserved : goal.loop-k-preserved
loop-k-preserved c =
    let states = c.args.states.now in
    let k = c.loop-k.k in
    let h = λ (j : ℕ). firm_of (state_at states j) true in
    let at : state_at states k ≡ c.index-states-k.result =
    sym (get_or_read states k c.index-states-k.result c.loop-k-test.true c.index-states-k.is off_state) in
    let found : h k ≡ c.firm_members.result =
    (λ i. firm_of (at i) true) ∙ sym c.firm_members.ensures in
    let sets = firm_sets states (λ j. true) k in
    elim c.match-firm_members.branch [
      | in-Some+in_ok-add_once w ↦
          w.sets-is ∙ w.in_ok-add_once.ensures sets c.loop-k.invariant
          ∙ ap each_once (sym (item-in h k w.in-Some.members (found ∙ w.in-Some.is)))
      | in_default w ↦
          w.sets-is ∙ c.loop-k.invariant ∙ ap each_once (sym (item-out h k (found ∙ w.in_default.is)))
    ]
