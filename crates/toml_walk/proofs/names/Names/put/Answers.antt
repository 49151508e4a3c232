use Rattle.std.proofs.Common.{◌≡◌, true, false, is_some, refl, ◌∙◌, arith}
use Rattle.std.proofs.lemmas.Grind.{common_steps}
use Rattle.toml_parser.specs.Reading.{key_view}
use Rattle.toml_walk.specs.declared.names.Holds.TheVariants as holds
use Rattle.toml_walk.specs.Names.{held_by, pass_dot, noting}
use Rattle.toml_walk.proofs.Leading.{part_on, part_stops, parts_end, put_stops, put_twice, put_once}
use Rattle.toml_walk.proofs.names.Names.put.Goals as goal

pub loop-part-init : goal.loop-part-init
loop-part-init c noted stands low = (noted, stands, low, refl)

pub loop-part-preserved : goal.loop-part-preserved
loop-part-preserved c noted stands low =
    let l = c.loop-part in
    let parts = c.args.key.now.path.items in
    let (now, still, within, loop) = l.invariant noted stands low in
    let (more, led, after, next_within) =
    rw (c.as_str.ensures.value, c.in-Some.is) at (c.in_ok-led.ensures now still within) in (
      more,
      after,
      next_within,
      loop ∙ part_on pass_dot parts l.part-index l.at now c.part-item.result c.in-Some.next
          more (grind (arith, common_steps)) (rw c.as_slice-part-items.ensures.value at c.part-item.is) led,
    )

pub returns-in-None : goal.returns-in-None
returns-in-None c noted stands low =
    let l = c.loop-part in
    let parts = c.args.key.now.path.items in
    let (now, still, within, loop) = l.invariant noted stands low in
    let none = rw (c.as_str.ensures.value, c.in-None.is) at (c.in_ok-led.ensures now still within) in
    put_stops c.args.table (key_view c.args.key.now) noted
    (loop ∙ part_stops pass_dot parts l.part-index l.at now c.part-item.result (grind (arith, common_steps))
    (rw c.as_slice-part-items.ensures.value at c.part-item.is) none)

pub returns-then-is_some : goal.returns-then-is_some
returns-then-is_some c noted stands low =
    let l = c.loop-part in
    let key = key_view c.args.key.now in
    let parts = c.args.key.now.path.items in
    let (now, still, within, loop) = l.invariant noted stands low in
    let found = rw c.as_str-last.ensures.value at (c.find.ensures now still) in
    let taken : is_some (held_by l.at key.1 now.names) ≡ true = grind (arith, common_steps, found) in
    put_twice c.args.table key noted l.at now
    (loop ∙ parts_end pass_dot parts l.part-index l.at now (grind (arith, common_steps))) taken

pub returns : goal.returns
returns c noted stands low =
    let l = c.loop-part in
    let key = key_view c.args.key.now in
    let parts = c.args.key.now.path.items in
    let (now, still, within, loop) = l.invariant noted stands low in
    let found = rw c.as_str-last.ensures.value at (c.find.ensures now still) in
    let free : is_some (held_by l.at key.1 now.names) ≡ false = grind (arith, common_steps, found) in (
      noting l.at key.1 holds.Value now,
      put_once c.args.table key noted l.at now
          (loop ∙ parts_end pass_dot parts l.part-index l.at now (grind (arith, common_steps))) free,
      rw c.as_str-last.ensures.value at (c.in_ok-note.ensures now still within still.root),
    )
