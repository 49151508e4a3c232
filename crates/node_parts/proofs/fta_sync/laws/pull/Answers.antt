use Rattle.std.proofs.Common.{rules}
use Rattle.node_parts.proofs.Pull.{pull}
use Rattle.node_parts.proofs.fta_sync.laws.pull.Goals as goal

pub returns : goal.returns
returns c =
    pull c.args.odd c.args.shift c.args.near c.args.wide c.args.a c.args.b c.requires.place (search rules)
    (search rules) c.requires.alike c.requires.narrow
