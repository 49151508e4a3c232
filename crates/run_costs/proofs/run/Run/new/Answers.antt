use Rattle.std.proofs.Common.{refl, arith}
use Rattle.run_costs.proofs.run.Run.new.Goals as goal

pub returns : goal.returns
returns c = λ script.
    let stands = c.in_ok-new.ensures script in
    record {
      same = stands.same;
      plant = stands.plant;
      zeros = stands.zeros;
      room = refl;
      states = λ some. absurd (omega (arith, some));
    }
