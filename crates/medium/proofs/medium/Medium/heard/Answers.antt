use Rattle.medium.proofs.medium.Medium.heard.Goals as goal

pub returns : goal.returns
returns c = λ script node of_node.
    c.received.ensures.heard c.args.self.now script node of_node c.carried-there.ensures
