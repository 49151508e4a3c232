use Rattle.std.proofs.Common.{refl}
use Rattle.toml_parser.specs.Reading.{key_view}
use Rattle.toml_walk.specs.declared.halt.Halt.TheVariants as halts
use Rattle.toml_walk.proofs.Steps.{match_err, memory_halts, opened_opens, opened_halts}
use Rattle.toml_walk.proofs.walk.open.Goals as goal

pub returns-in-Some : goal.returns-in-Some
returns-in-Some c sections is =
    opened_opens _ _ c.args.is_element (key_view c.args.key.now) sections.noted c.in-Some.table c.args.s.now refl refl
    (rw c.in-Some.is at (c.in_ok-opened.ensures sections.noted is.noted))

pub returns-in-None : goal.returns-in-None
returns-in-None c sections is =
    opened_halts c.args.is_element (key_view c.args.key.now) sections.noted c.args.s.now c.defined.result
    (rw c.in-None.is at (c.in_ok-opened.ensures sections.noted is.noted)) c.defined.ensures

pub returns-in_err-opened : goal.returns-in_err-opened
returns-in_err-opened c sections is =
    match_err _ c.from_residual.result _ halts.Memory _ c.from_residual.ensures.1 (λ y p. p) (memory_halts _)
