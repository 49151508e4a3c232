use Rattle.ttp_world.proofs.Words.{ℕ, ◌<◌, ◌≤◌, List, length, subst, ap, sym, ◌∙◌, arith, Step, NODE_KEYS, incidents_in}
use Rattle.ttp_world.proofs.Words.{AreBounded, incidents_before, step_is_by, AreFew, SplitsAt}
use Rattle.ttp_world.proofs.EventBounds.{incidents_in-bounded}
use Rattle.ttp_world.proofs.events.Events.incidents.Goals as goal

pub returns : goal.returns
returns c =
    let k = c.args.node in
    let slot = c.args.slot in
    let steps = c.self.inside.index.steps in
    let place = c.steps_up_to-place.result in
    let in_node : slot < NODE_KEYS = omega arith in
    let within : place ≤ length steps =
    omega (arith, c.steps_up_to-place.ensures.bound, ap length c.as_slice-steps.ensures) in
    let up_to =
    subst (λ (ss : List Step). SplitsAt
    (step_is_by c.key_of.result) ss place) c.as_slice-steps.ensures c.steps_up_to-place.ensures.place in
    let splits = subst (λ (key : ℕ). SplitsAt (step_is_by key) steps place) c.key_of.ensures up_to in
    let value = c.incidents_before.ensures ∙ ap (λ (ss : List Step). incidents_before ss place) c.as_slice-steps.ensures
    ∙ c.self.invariant.1.steps.incidents k slot place in_node within splits
    ∙ ap (λ events. incidents_in events k slot) c.self.view_is in
    let few : AreFew c.args.self.now = subst AreFew c.self.view_is c.self.invariant.0 in
    record {
      value = value;
      bounds = subst AreBounded (sym value) (incidents_in-bounded c.args.self.now k slot few);
    }
