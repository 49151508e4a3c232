use Rattle.script_gen.proofs.Words.{◌∙◌}
use Rattle.std.proofs.lemmas.List.{take-replicate}
use Rattle.script_gen.proofs.hosts.filled.Goals as goal

pub returns : goal.returns
returns c = c.of.ensures ∙ take-replicate c.args.size 240 c.args.byte c.requires
