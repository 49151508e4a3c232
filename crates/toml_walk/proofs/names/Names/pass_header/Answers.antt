use Rattle.std.proofs.Common.{◌≡◌, Some, arith}
use Rattle.std.proofs.lemmas.Grind.{common_steps}
use Rattle.toml_walk.specs.declared.names.Holds.TheVariants as holds
use Rattle.toml_walk.specs.Names.{held_by}
use Rattle.toml_walk.proofs.Leading.{header_table, header_array}
use Rattle.toml_walk.proofs.names.Names.pass_header.Goals as goal

pub returns-in-Some-Table : goal.returns-in-Some-Table
returns-in-Some-Table c noted stands low =
    let k = c.args.key.now in
    let n = c.in-Some-Table.number in
    let o = c.in-Some-Table.field-0-0 in
    let held : held_by c.args.table k noted.names ≡ Some (holds.Table o n) =
    grind (arith, common_steps, c.find-held.ensures noted stands) in
    header_table c.args.table k noted c.args.self.now o n held stands

pub returns-in-Some-Array : goal.returns-in-Some-Array
returns-in-Some-Array c noted stands low =
    let k = c.args.key.now in
    let n = c.in-Some-Array.last in
    let held : held_by c.args.table k noted.names ≡ Some (holds.Array n) =
    grind (arith, common_steps, c.find-held.ensures noted stands) in
    header_array c.args.table k noted c.args.self.now n held stands
