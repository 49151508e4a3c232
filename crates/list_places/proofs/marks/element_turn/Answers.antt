use Rattle.std.proofs.Common.{◌≡◌, ◌==◌, false, [], ◌∷◌, arith}
use Rattle.std.proofs.lemmas.Grind.{common_steps}
use Rattle.toml_parser.specs.Lexical.{first, skip_blank}
use Rattle.list_places.specs.Marks.{element_place}
use Rattle.list_places.proofs.Marking.{slots_push}
use Rattle.list_places.proofs.Turning.{element_on}
use Rattle.list_places.proofs.marks.element_turn.Goals as goal

pub returns-in-Ok-clause-value : goal.returns-in-Ok-clause-value
returns-in-Ok-clause-value c n places are =
    let text = c.args.s.now in
    let start_is = c.skip_blank-start.ensures.rest in
    let other : (first (skip_blank text) == 93) ≡ false = grind (arith, common_steps) in
    let read = rw start_is at c.in-Ok.ensures.value in
    let is = rw start_is at c.in_ok-slot-in-Ok.ensures in (
      element_place (skip_blank text) ∷ [],
      rw c.in_ok-push-in-Ok.ensures.items
          (slots_push c.args.slots.now.items places c.in_ok-slot-in-Ok.slot (element_place (skip_blank text)) are is),
      element_on n text c.in-Ok.after.now other read,
    )
