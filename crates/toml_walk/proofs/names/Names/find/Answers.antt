use Rattle.std.proofs.Common.{arith}
use Rattle.std.proofs.lemmas.Grind.{common_steps}
use Rattle.toml_walk.proofs.Standing.{find_none, find_some}
use Rattle.toml_walk.proofs.names.Names.find.Goals as goal

pub returns-in-Some : goal.returns-in-Some
returns-in-Some c noted stands =
    let at = rw c.as_slice.ensures.value at c.in-Some.ensures.lookup in
    find_some c.args.self.now noted c.args.table c.args.key.now c.in-Some.keys.now _ stands
    at.3.0 at.1 (grind (arith, common_steps))

pub returns-in-None : goal.returns-in-None
returns-in-None c noted stands =
    let past = rw c.as_slice.ensures.value at c.in-None.ensures.lookup in
    find_none c.args.self.now noted c.args.table c.args.key.now stands past.3
