use Rattle.hypothesis.proofs.newest.slot_at.Goals as goal

pub returns : goal.returns
returns c = λ list script start are. are.told c.args.slot _ c.requires.come c.requires.kept
