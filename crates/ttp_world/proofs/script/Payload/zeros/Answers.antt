use Rattle.std.proofs.lemmas.List.{drop-replicate, take-replicate}
use Rattle.ttp_world.proofs.script.Payload.zeros.Goals as goal

pub invariant_of-result : goal.invariant_of-result
invariant_of-result c = (c.requires, drop-replicate c.args.len 240 0)

pub returns : goal.returns
returns c = take-replicate c.args.len 240 0 c.requires
