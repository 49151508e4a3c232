use Rattle.std.proofs.Common.{◌≡◌, ◌==◌, false, length, arith}
use Rattle.std.proofs.lemmas.Grind.{common_steps}
use Rattle.toml_parser.specs.Lexical.{skip_blank}
use Rattle.toml_walk.specs.Walk.{statement_view}
use Rattle.list_places.specs.Marks.{after_statement}
use Rattle.list_places.proofs.Turning.{marks_on_statement}
use Rattle.list_places.proofs.marks.line_turn.Goals as goal

pub returns-in-Ok-clause-value : goal.returns-in-Ok-clause-value
returns-in-Ok-clause-value c n marked are =
    let text = c.args.s.now in
    let start_is = c.skip_blank-start.ensures.rest in
    let some : (length (skip_blank text) == 0) ≡ false = grind (arith, common_steps) in
    let statement = statement_view c.in-Ok.statement in
    let read = rw start_is at c.in-Ok.ensures.value in
    let noted = rw start_is at (c.in_ok-note_statement-in-Ok.ensures marked are) in (
      after_statement marked (length (skip_blank text)) statement,
      noted,
      marks_on_statement n text marked statement c.in-Ok.after.now some read,
    )
