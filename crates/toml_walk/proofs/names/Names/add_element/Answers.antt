use Rattle.std.proofs.Common.{◌+◌, ◌<◌, arith}
use Rattle.toml_walk.specs.Names.{with_table}
use Rattle.toml_walk.proofs.names.Names.add_element.Goals as goal

pub returns : goal.returns
returns c noted stands low =
    let (is, more) = c.in_ok-last.ensures noted stands in
    let below : c.in_ok-last.last < noted.tables + 1 = omega (arith, is) in
    (is, rw is at (c.in_ok-note.ensures (with_table noted) more (omega (arith, low)) below))
