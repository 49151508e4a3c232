use Rattle.std.proofs.Common.{ap, ◌∙◌, arith}
use Rattle.std.proofs.lemmas.Grind.{common_steps}
use Rattle.list_places.specs.Places.{found_places, stop_told}
use Rattle.check_text.proofs.Sides.{side_is}
use Rattle.check_text.proofs.list_side.list_side.Goals as goal

pub returns-clause-lines : goal.returns-clause-lines
returns-clause-lines c = λ name.
    let text = c.args.text.now in
    let found = c.in_ok-list.field-0 in
    side_is name text found.wrongs found.rounds found.modes c.in_ok-places.field-0.places c.in_ok-places.field-0.stop
    c.put_stop.new.line c.in_ok-list.ensures.exact c.in_ok-list.ensures.rounds c.in_ok-list.ensures.modes
    (c.in_ok-places.ensures.places ∙ ap (found_places text) c.as_slice.ensures)
    (c.in_ok-places.ensures.stop ∙ ap (stop_told text) c.as_slice.ensures)
    (grind (arith, common_steps))
