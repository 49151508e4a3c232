use Rattle.broken_faults.proofs.losses.loses.Goals as goal

pub returns : goal.returns
returns c =
    c.is_lost.ensures c.args.script.now c.args.sender c.args.slot c.args.node c.incidents-sending.ensures.value
    c.incidents-hearing.ensures.value
