use Rattle.controller.proofs.Words.{joined_place}
use Rattle.controller.proofs.node.stint.next_clock.Goals as goal

pub returns : goal.returns
returns c = c.next.ensures c.args.list.now (joined_place c.args.cstate.now) c.at-clock.ensures
