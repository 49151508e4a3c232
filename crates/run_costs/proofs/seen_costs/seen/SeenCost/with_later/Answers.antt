use Rattle.std.proofs.Common.{refl}
use Rattle.run_costs.proofs.Later.{seen-now}
use Rattle.run_costs.proofs.seen_costs.seen.SeenCost.with_later.Goals as goal

pub returns : goal.returns
returns c = λ script is later seen.
    seen-now c.args.list.now script c.args.more.now c.args.event.now c.args.slots c.args.self.now _ is later seen
    (c.with_later.ensures script is later seen.faulty) refl refl refl
