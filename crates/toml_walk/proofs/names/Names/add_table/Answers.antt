use Rattle.std.proofs.Common.{◌≡◌, length, arith}
use Rattle.std.proofs.lemmas.Grind.{common_steps}
use Rattle.toml_walk.proofs.Standing.{stands_more}
use Rattle.toml_walk.proofs.names.Names.add_table.Goals as goal

pub returns : goal.returns
returns c noted stands =
    let same : c.len-number.result ≡ length c.args.self.now.tables.items = grind (arith, common_steps) in (
      omega (arith, same, stands.count),
      stands_more c.args.self.now _ c.new.result noted
          c.in_ok-push.ensures.items c.new.ensures.empty stands,
    )
