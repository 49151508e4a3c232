use Rattle.script_gen.proofs.Words.{refl}
use Rattle.script_gen.proofs.DrawSteps.{state-next, drawn-next}
use Rattle.script_gen.proofs.draws.Draws.draw.Goals as goal

pub invariant_of-self : goal.invariant_of-self
invariant_of-self c =
    let draws = c.args.self.now in
    record { drawn = state-next draws.number draws.count draws.state _ draws.drawn refl }

pub returns-clause-value : goal.returns-clause-value
returns-clause-value c =
    let draws = c.args.self.now in
    drawn-next draws.number draws.count _ (state-next draws.number draws.count draws.state _ draws.drawn refl)
