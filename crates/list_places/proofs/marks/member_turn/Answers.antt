use Rattle.std.proofs.Common.{◌≡◌, ◌==◌, false, [], ◌∷◌, length, arith}
use Rattle.std.proofs.lemmas.Grind.{common_steps}
use Rattle.toml_parser.specs.Lexical.{first, skip_blank}
use Rattle.toml_parser.specs.Reading.{key_view}
use Rattle.list_places.specs.Marks.{key_place, first_part}
use Rattle.list_places.proofs.Turning.{member_on}
use Rattle.list_places.proofs.marks.member_turn.Goals as goal

pub returns-in-Ok-clause-value : goal.returns-in-Ok-clause-value
returns-in-Ok-clause-value c n places are =
    let text = c.args.s.now in
    let start_is = c.skip_blank-start.ensures.rest in
    let other : (first (skip_blank text) == 125) ≡ false = grind (arith, common_steps) in
    let key = key_view c.in-Ok.key in
    let read = rw start_is at c.in-Ok.ensures.value in
    let noted = rw (c.first_part.ensures, start_is) at (c.in_ok-note-in-Ok.ensures places are) in (
      key_place (first_part key) (length (skip_blank text))
          ∷ [],
      noted,
      member_on n text key c.in-Ok.after.now other read,
    )
