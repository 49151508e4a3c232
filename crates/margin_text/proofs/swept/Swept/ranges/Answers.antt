use Rattle.std.proofs.Common.{sym, ◌∙◌}
use Rattle.margin_text.proofs.Counted.{some-count, none-count}
use Rattle.margin_text.proofs.swept.Swept.ranges.Goals as goal

pub returns-then-is_some : goal.returns-then-is_some
returns-then-is_some c = λ tolds swept.
    some-count _ c.args.self.now.last c.args.self.now.closed swept.last swept.closed
    (sym c.is_some.ensures ∙ c.if-is_some.true)

pub returns-else-is_some : goal.returns-else-is_some
returns-else-is_some c = λ tolds swept.
    none-count _ c.args.self.now.last c.args.self.now.closed swept.last swept.closed
    (sym c.is_some.ensures ∙ c.if-is_some.false)
