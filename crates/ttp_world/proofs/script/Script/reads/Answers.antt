use Rattle.ttp_world.proofs.Words.{◌∙◌}
use Rattle.ttp_world.proofs.HostLists.{reads_told}
use Rattle.ttp_world.proofs.script.Script.reads.Goals as goal

pub returns : goal.returns
returns c = c.reads.ensures ∙ reads_told c.args.slot c.args.self.now.events
