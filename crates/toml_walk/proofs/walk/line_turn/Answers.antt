use Rattle.std.proofs.Common.{◌≡◌, ◌==◌, false, length, arith}
use Rattle.std.proofs.lemmas.Grind.{common_steps}
use Rattle.toml_parser.specs.Lexical.{skip_blank}
use Rattle.toml_walk.specs.Walk.{statement_view}
use Rattle.toml_walk.proofs.Steps.{match_err, lines_end, lines_no_statement, lines_twice, lines_on}
use Rattle.toml_walk.proofs.walk.line_turn.Goals as goal

pub returns-then-is_empty-clause-value : goal.returns-then-is_empty-clause-value
returns-then-is_empty-clause-value c n sections is =
    let text = c.args.s.now in
    let start_is = c.skip_blank-start.ensures.rest in
    let none : length (skip_blank text) ≡ 0 = grind (arith, common_steps) in
    rw start_is (lines_end n sections text none)

pub returns-in_err-statement-clause-value : goal.returns-in_err-statement-clause-value
returns-in_err-statement-clause-value c n sections is =
    let text = c.args.s.now in
    let start_is = c.skip_blank-start.ensures.rest in
    let some : (length (skip_blank text) == 0) ≡ false = grind (arith, common_steps) in
    match_err _ c.from_residual.result _ c.in_err-statement.field-0.0 _ c.from_residual.ensures.1 (λ y p. p)
    (λ x stops. lines_no_statement n sections text x some (rw start_is at (c.in_err-statement.ensures.value x stops)))

pub returns-in_err-define-clause-value : goal.returns-in_err-define-clause-value
returns-in_err-define-clause-value c n sections is =
    let text = c.args.s.now in
    let start_is = c.skip_blank-start.ensures.rest in
    let some : (length (skip_blank text) == 0) ≡ false = grind (arith, common_steps) in
    match_err _ c.from_residual-in_err-define.result _ c.in_err-define.field-0.0 _
    c.from_residual-in_err-define.ensures.1 (λ y p. p)
    (λ x stops. lines_twice n sections text
    (statement_view c.in_ok-statement.statement) c.in_ok-statement.rest.now x some
    (rw start_is at c.in_ok-statement.ensures.value) (rw start_is at (c.in_err-define.ensures sections is x stops)))

pub returns-clause-value : goal.returns-clause-value
returns-clause-value c n sections is =
    let text = c.args.s.now in
    let start_is = c.skip_blank-start.ensures.rest in
    let some : (length (skip_blank text) == 0) ≡ false = grind (arith, common_steps) in
    let (more, once, after) = rw start_is at (c.in_ok-define.ensures sections is) in (
      more,
      lines_on n sections text (statement_view c.in_ok-statement.statement) c.in_ok-statement.rest.now more some
          (rw start_is at c.in_ok-statement.ensures.value) once,
      after,
    )
