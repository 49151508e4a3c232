use Rattle.toml_parser.specs.Reading.{key_view}
use Rattle.toml_walk.specs.declared.halt.Halt.TheVariants as halts
use Rattle.toml_walk.proofs.Steps.{match_err, memory_halts, put_ok, put_halts}
use Rattle.toml_walk.proofs.walk.put.Goals as goal

pub returns-then-is_put : goal.returns-then-is_put
returns-then-is_put c noted stands low =
    let (more, is, after) = rw c.if-is_put.true at (c.in_ok-is_put.ensures noted stands low) in
    (more, put_ok c.args.table (key_view c.args.key.now) noted more c.args.s.now is, after)

pub returns-else-is_put : goal.returns-else-is_put
returns-else-is_put c noted stands low =
    put_halts c.args.table (key_view c.args.key.now) noted c.args.s.now c.defined.result
    (rw c.if-is_put.false at (c.in_ok-is_put.ensures noted stands low)) c.defined.ensures

pub returns-in_err-is_put : goal.returns-in_err-is_put
returns-in_err-is_put c noted stands low =
    match_err _ c.from_residual.result _ halts.Memory _ c.from_residual.ensures.1 (λ y p. p) (memory_halts _)
