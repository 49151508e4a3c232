use Rattle.ttp_world.proofs.Words.{ap, ◌∙◌, write_at}
use Rattle.std.specs.List.{filter_map}
use Rattle.ttp_world.proofs.HostLists.{writes_told}
use Rattle.ttp_world.proofs.script.Script.writes.Goals as goal

pub returns : goal.returns
returns c =
    ap (filter_map (write_at c.args.self.now)) c.writes.ensures ∙ writes_told c.args.self.now c.args.slot
