use Rattle.std.proofs.Common.{sym, ◌∙◌}
use Rattle.run_costs.proofs.Later.{walk-now}
use Rattle.run_costs.proofs.seen_costs.faulty.Faulty.with_later.Goals as goal

pub returns-then-is_loss : goal.returns-then-is_loss
returns-then-is_loss c = λ script is later at.
    c.forgetting.ensures c.args.list.now c.args.more.now c.args.slots
    (walk-now c.args.list.now script c.args.more.now c.args.event.now c.args.slots c.args.self.now is later
    (sym c.is_loss.ensures ∙ c.if-is_loss.true) at)
