use Rattle.controller.proofs.Words.{rules, or-false, nodes-most, members_after-Sent}
use Rattle.controller.proofs.node.Node.send.Goals as goal

pub returns : goal.returns
returns c message =
    let list = c.args.list.now in
    let past = c.args.self.now in
    search (
      rules,
      or-false,
      members_after-Sent list c.args.k past.members past.ack message c.requires.within.members
          c.requires.node (nodes-most list c.requires.valid),
    )
