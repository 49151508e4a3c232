use Rattle.std.proofs.Common.{◌≡◌, ◌<◌, Some, arith}
use Rattle.std.proofs.lemmas.Grind.{common_steps}
use Rattle.toml_walk.specs.declared.names.Origin.TheVariants as origin
use Rattle.toml_walk.specs.declared.names.Holds.TheVariants as holds
use Rattle.toml_walk.specs.Names.{held_by}
use Rattle.toml_walk.proofs.Leading.{dot_implicit, dot_dotted}
use Rattle.toml_walk.proofs.names.Names.pass_dot.Goals as goal

pub returns-in-Some-Table-Dotted-default : goal.returns-in-Some-Table-Dotted-default
returns-in-Some-Table-Dotted-default c noted stands low =
    let k = c.args.key.now in
    let n = c.in-Some-Table-Dotted-default.number in
    let held : held_by c.args.table k noted.names ≡ Some (holds.Table origin.Dotted n) =
    grind (arith, common_steps, c.find-held.ensures noted stands) in
    dot_dotted c.args.table k noted c.args.self.now n held stands

pub returns-in_ok-note-in-Some-Table-Implicit-default : goal.returns-in_ok-note-in-Some-Table-Implicit-default
returns-in_ok-note-in-Some-Table-Implicit-default c noted stands low =
    let k = c.args.key.now in
    let n = c.in-Some-Table-Implicit-default.number in
    let held : held_by c.args.table k noted.names ≡ Some (holds.Table origin.Implicit n) =
    grind (arith, common_steps, c.find-held.ensures noted stands) in
    let below : n < noted.tables = stands.within c.args.table k (holds.Table origin.Implicit n) held in
    dot_implicit c.args.table k noted c.note.new.self n held below
    (c.in_ok-note-in-Some-Table-Implicit-default.ensures noted stands low below)
