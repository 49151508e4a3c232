use Rattle.std.proofs.Common.{◌≡◌, true, arith}
use Rattle.std.proofs.lemmas.Grind.{common_steps}
use Rattle.std.proofs.lemmas.Map.Text.{btree_map_updates_text}
use Rattle.std.specs.BTreeMap.{get_by_text}
use Rattle.std.specs.Option.{is_some}
use Rattle.std.specs.String.{string_bytes}
use Rattle.list_places.proofs.Marking.{keys_noted, keys_kept, no_value}
use Rattle.list_places.proofs.marks.note.Goals as goal

pub returns-then-contains_key : goal.returns-then-contains_key
returns-then-contains_key c places are =
    let there : is_some (get_by_text c.args.keys.now c.args.key.now) ≡ true = grind (arith, common_steps) in
    keys_kept c.args.keys.now c.args.key.now c.args.left places are there

pub returns : goal.returns
returns c places are =
    let m = c.args.keys.now in
    let n = c.insert.new.self in
    keys_noted m n c.args.key.now c.args.left places are
    (no_value (get_by_text m c.args.key.now) c.contains_key.result c.contains_key.ensures (grind (arith, common_steps)))
    (rw c.in_ok-text.ensures.ok at
    (btree_map_updates_text (string_bytes c.in_ok-text.text) m n _ c.in_ok-insert.ensures.updates))
