use Rattle.std.proofs.Common.{refl, ◌∙◌, arith}
use Rattle.std.proofs.lemmas.Grind.{common_steps}
use Rattle.toml_parser.specs.Reading.{key_view}
use Rattle.toml_walk.specs.Names.{pass_header}
use Rattle.toml_walk.proofs.Leading.{part_on, part_stops, parts_end, opened_stops, opened_at, if_ok}
use Rattle.toml_walk.proofs.names.Names.open.Goals as goal

pub loop-part-init : goal.loop-part-init
loop-part-init c noted stands = (noted, stands, stands.root, refl)

pub loop-part-preserved : goal.loop-part-preserved
loop-part-preserved c noted stands =
    let l = c.loop-part in
    let parts = c.args.key.now.path.items in
    let (now, still, within, loop) = l.invariant noted stands in
    let (more, led, after, next_within) =
    rw (c.as_str.ensures.value, c.in-Some.is) at (c.in_ok-led.ensures now still within) in (
      more,
      after,
      next_within,
      loop ∙ part_on pass_header parts l.part-index l.at now c.part-item.result c.in-Some.next
          more (grind (arith, common_steps)) (rw c.as_slice-part-items.ensures.value at c.part-item.is) led,
    )

pub returns-in-None : goal.returns-in-None
returns-in-None c noted stands =
    let l = c.loop-part in
    let parts = c.args.key.now.path.items in
    let (now, still, within, loop) = l.invariant noted stands in
    let none = rw (c.as_str.ensures.value, c.in-None.is) at (c.in_ok-led.ensures now still within) in
    opened_stops (key_view c.args.key.now) noted c.args.is_element
    (loop ∙ part_stops pass_header parts l.part-index l.at now c.part-item.result (grind (arith, common_steps))
    (rw c.as_slice-part-items.ensures.value at c.part-item.is) none)

pub returns-then-is_element : goal.returns-then-is_element
returns-then-is_element c =
    if_ok c.open_element.result _ _ c.open_element.ensures λ next h noted stands.
    let l = c.loop-part in
    let key = key_view c.args.key.now in
    let parts = c.args.key.now.path.items in
    let (now, still, within, loop) = l.invariant noted stands in
    let led = loop ∙ parts_end pass_header parts l.part-index l.at now (grind (arith, common_steps)) in
    rw (opened_at key noted c.args.is_element l.at now led, c.if-is_element.true)
    (rw c.as_str-last.ensures.value at (h now still within))

pub returns-else-is_element : goal.returns-else-is_element
returns-else-is_element c =
    if_ok c.open_table.result _ _ c.open_table.ensures λ next h noted stands.
    let l = c.loop-part in
    let key = key_view c.args.key.now in
    let parts = c.args.key.now.path.items in
    let (now, still, within, loop) = l.invariant noted stands in
    let led = loop ∙ parts_end pass_header parts l.part-index l.at now (grind (arith, common_steps)) in
    rw (opened_at key noted c.args.is_element l.at now led, c.if-is_element.false)
    (rw c.as_str-last.ensures.value at (h now still within))
