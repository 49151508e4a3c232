use Rattle.controller.proofs.Words.{rules, nodes-most, members_after-Started}
use Rattle.controller.proofs.node.Node.start.Goals as goal

pub returns : goal.returns
returns c =
    let list = c.args.list.now in
    let past = c.args.self.now in
    search (
      rules,
      members_after-Started list c.args.k past.members past.ack c.requires.node
          (nodes-most list c.requires.valid),
    )
