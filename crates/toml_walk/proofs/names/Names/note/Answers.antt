use Rattle.std.proofs.Common.{◌<◌, length, refl, arith}
use Rattle.std.proofs.lemmas.Grind.{common_steps}
use Rattle.std.proofs.lemmas.Map.Text.{btree_map_updates_text}
use Rattle.std.proofs.lemmas.Option.{slice_get_read}
use Rattle.std.specs.String.{string_bytes}
use Rattle.toml_walk.proofs.Standing.{stands_noting}
use Rattle.toml_walk.proofs.names.Names.note.Goals as goal

pub returns : goal.returns
returns c noted stands low below =
    let old = c.args.self.now in
    let m = c.index_mut.result.now in
    let n = c.insert.new.self in
    let within : c.args.table < length old.tables.items = grind (arith, common_steps) in
    stands_noting old _ m n c.args.table c.args.key.now c.args.holds noted refl
    (slice_get_read old.tables.items _ c.args.table m refl within c.index_mut.ensures.value)
    (rw c.in_ok-key.ensures.ok at
    (btree_map_updates_text (string_bytes c.in_ok-key.key) m n _ c.in_ok-insert.ensures.updates))
    below stands
