use Rattle.std.proofs.Common.{ℕ, take, sym, subst, ◌∙◌}
use Rattle.ttp_world.specs.ZerosWorld.{zeros_world}
use Rattle.run_costs.specs.States.{AreShown}
use Rattle.run_costs.proofs.run.Run.states.Goals as goal

pub returns : goal.returns
returns c = λ script slots stands some.
    let list = c.args.list.now in
    subst (λ (n : ℕ). AreShown list script (zeros_world list script slots) (take n c.args.self.now.states))
    (sym (c.from.ensures ∙ c.nodes.ensures)) (stands.states some)
