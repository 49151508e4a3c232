use Rattle.std.proofs.Common.{◌≡◌, ◌+◌, ℕ, subst, sym, ◌∙◌}
use Rattle.std.proofs.lemmas.List.{get_or_read}
use Rattle.ttp_base.specs.NodeSet.{has_node}
use Rattle.run_costs.specs.declared.seen_costs.sets.Held.{Held}
use Rattle.run_costs.specs.States.{off_state, state_at, firm_of, firm_sets, IsHeld}
use Rattle.run_costs.proofs.Distinct.{item-in, item-out}
use Rattle.run_costs.proofs.seen_costs.sets.are_split.Goals as goal
use Rattle.run_costs.proofs.seen_costs.sets.are_split.Goals.{in-Some, in_default}

pub loop-k-preserved : goal.loop-k-preserved
loop-k-preserved c =
    let states = c.args.states.now in
    let k = c.loop-k.k in
    let h = λ (j : ℕ). firm_of (state_at states j) (has_node c.args.among j) in
    let at : state_at states k ≡ c.index-states-k.result =
    sym (get_or_read states k c.index-states-k.result c.loop-k-test.true c.index-states-k.is off_state) in
    let found : h k ≡ c.firm_members.result =
    (λ i. firm_of (at i) (sym c.has.ensures i)) ∙ sym c.firm_members.ensures in
    let sets = firm_sets states (has_node c.args.among) k in
    elim c.match-firm_members.branch [
      | in-Some w ↦
          let more = item-in h k w.in-Some.members (found ∙ w.in-Some.is) in
          subst (λ (held : Held). IsHeld held (firm_sets states (has_node c.args.among) (k + 1))) (sym w.held-is)
          (subst (IsHeld w.add.new.self) (sym more) (w.add.ensures sets c.loop-k.invariant))
      | in_default w ↦
          subst (λ (held : Held). IsHeld held (firm_sets states (has_node c.args.among) (k + 1))) (sym w.held-is)
          (subst (IsHeld c.loop-k.held) (sym (item-out h k (found ∙ w.in_default.is))) c.loop-k.invariant)
    ]
