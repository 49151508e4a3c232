use Rattle.std.proofs.Common.{◌+◌, ◌<◌, arith}
use Rattle.toml_walk.specs.Names.{with_table}
use Rattle.toml_walk.proofs.names.Names.note_table.Goals as goal

pub returns : goal.returns
returns c noted stands low =
    let (is, more) = c.in_ok-number.ensures noted stands in
    let below : c.in_ok-number.number < noted.tables + 1 = omega (arith, is) in
    (is, rw is at (c.in_ok-note.ensures (with_table noted) more (omega (arith, low)) below))
