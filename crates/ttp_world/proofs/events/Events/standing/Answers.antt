use Rattle.ttp_world.proofs.Words.{◌≡◌, ℕ, ◌<◌, ◌≤◌, false, List, length, get_or, subst, ap, sym, ◌∙◌, arith, leb-false}
use Rattle.ttp_world.proofs.Words.{Step, NODE_KEYS, incidents_in, AreBounded, first_step, incidents_before, step_is_by}
use Rattle.ttp_world.proofs.Words.{AreFew, key_of, SplitsAt}
use Rattle.ttp_world.proofs.EventBounds.{incidents_in-bounded}
use Rattle.ttp_world.proofs.Splits.{splits-later}
use Rattle.ttp_world.proofs.events.Events.standing.Goals as goal

pub returns : goal.returns
returns c =
    let k = c.args.node in
    let slot = c.args.slot in
    let steps = c.self.inside.index.steps in
    let place = c.steps_up_to-place.result in
    let is = c.as_slice-steps.ensures in
    let within : place ≤ length steps = omega (arith, c.steps_up_to-place.ensures.bound, ap length is) in
    let up_to = subst (λ (ss : List Step). SplitsAt (step_is_by c.key_of.result) ss place) is
    c.steps_up_to-place.ensures.place in
    let splits : SplitsAt (step_is_by (key_of k slot)) steps place =
    subst (λ (key : ℕ). SplitsAt (step_is_by key) steps place) c.key_of.ensures up_to in
    let told : c.incidents_before.result ≡ incidents_before steps place =
    c.incidents_before.ensures ∙ ap (λ (ss : List Step). incidents_before ss place) is in
    let at : (t : ℕ) → t < NODE_KEYS → SplitsAt (step_is_by (key_of k t)) steps place
    → c.incidents_before.result ≡ incidents_in c.args.self.now k t =
    λ t in_node here. told ∙ c.self.invariant.1.steps.incidents k t place in_node within here
    ∙ ap (λ events. incidents_in events k t) c.self.view_is in
    let few : AreFew c.args.self.now = subst AreFew c.self.view_is c.self.invariant.0 in
    let value = at slot (omega arith) splits in
    record {
      value = value;
      bounds = subst AreBounded (sym value) (incidents_in-bounded c.args.self.now k slot few);
      behind = λ less. c.slot_of_step.ensures.behind slot less (λ more. leb-false _ (key_of k slot)
          (subst (λ (key : ℕ). step_is_by key (get_or c.as_slice-steps.result.now place first_step) ≡ false)
          c.key_of.ensures (c.steps_up_to-place.ensures.place.1 place first_step (omega arith) more)));
      stands = λ t from before. sym (at t (omega (arith, before, c.slot_of_step.type_inv))
          (splits-later steps place (key_of k slot) (key_of k t) c.self.invariant.1.steps.ascend within splits
          (omega (arith, from)) (subst
          (λ (ss : List Step). place < length ss → key_of k t < (get_or ss place first_step).key)
          is (c.slot_of_step.ensures.before t before))));
    }
