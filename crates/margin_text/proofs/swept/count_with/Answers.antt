use Rattle.std.proofs.Common.{sym, ◌∙◌, arith}
use Rattle.margin_text.proofs.Counted.{one-closed, none-closed}
use Rattle.margin_text.proofs.swept.count_with.Goals as goal

pub returns-then-is_some : goal.returns-then-is_some
returns-then-is_some c =
    let one = one-closed c.args.closed.now (sym c.is_some.ensures ∙ c.if-is_some.true) in
    omega (arith, one)

pub returns-else-is_some : goal.returns-else-is_some
returns-else-is_some c =
    let none = none-closed c.args.closed.now (sym c.is_some.ensures ∙ c.if-is_some.false) in
    omega (arith, none)
