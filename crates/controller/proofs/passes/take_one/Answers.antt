use Rattle.controller.proofs.Words.{arith, rules}
use Rattle.controller.proofs.InSlot.{ended-node}
use Rattle.controller.proofs.KnownFrames.{part-known}
use Rattle.controller.proofs.Near.{arrival_fits, ended-controller, handed}
use Rattle.ttp_world.specs.declared.script.Channel.TheVariants as channel
use Rattle.controller.proofs.passes.take_one.Goals as goal

pub take_known-requires-clause-a : goal.take_known-requires-clause-a
take_known-requires-clause-a c =
    arrival_fits c.requires.list c.requires.medium c.requires.controller
    (handed c.requires.incidents (omega (arith, c.requires.drifts)) c.requires.drift c.get.ensures)
    channel.A c.received-a.result.now c.requires.slot (search (rules, c.received-a.ensures.heard))

pub take_known-requires-clause-b : goal.take_known-requires-clause-b
take_known-requires-clause-b c =
    arrival_fits c.requires.list c.requires.medium c.requires.controller
    (handed c.requires.incidents (omega (arith, c.requires.drifts)) c.requires.drift c.get.ensures)
    channel.B c.received-b.result.now c.requires.slot (search (rules, c.received-b.ensures.heard))

pub returns-clause-controller : goal.returns-clause-controller
returns-clause-controller c =
    ended-controller c.requires.list c.requires.medium c.requires.controller
    (handed c.requires.incidents (omega (arith, c.requires.drifts)) c.requires.drift c.get.ensures)
    c.received-a.result.now c.received-b.result.now (search (rules, c.received-a.ensures.heard))
    (search (rules, c.received-b.ensures.heard)) c.take_known.ensures.same c.take_known.ensures.clock
    c.take_known.ensures.turn

pub returns-clause-ends : goal.returns-clause-ends
returns-clause-ends c history chosen planned carries =
    ended-node c.args.list.now c.args.script.now history c.args.k c.requires.node chosen c.received-a.result.now
    c.received-b.result.now c.requires.slot c.take_known.ensures.same c.take_known.ensures.ends
    (handed c.requires.incidents (omega (arith, c.requires.drifts)) c.requires.drift c.get.ensures)
    (search (rules, c.received-a.ensures.heard)) (search (rules, c.received-b.ensures.heard)) carries
    planned

pub take_known-requires-clause-known : goal.take_known-requires-clause-known
take_known-requires-clause-known c = record {
  a = part-known c.received-a.ensures.part c.requires.known.a;
  b = part-known c.received-b.ensures.part c.requires.known.b;
}
