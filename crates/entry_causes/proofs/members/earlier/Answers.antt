use Rattle.std.proofs.Common.{Bool, Some, cond, option_map, ap, sym, ◌∙◌}
use Rattle.entry_causes.proofs.Telling.{said_first-one, said_first-next}
use Rattle.entry_causes.specs.Differences.{difference_shown}
use Rattle.entry_causes.proofs.members.earlier.Goals as goal

pub returns-in-None-clause-value : goal.returns-in-None-clause-value
returns-in-None-clause-value c = λ others is.
    sym
    (said_first-one others (difference_shown c.args.other)
    (sym is ∙ ap (option_map difference_shown) c.in-None.is))

pub returns-then-is_earlier-clause-value : goal.returns-then-is_earlier-clause-value
returns-then-is_earlier-clause-value c = λ others is.
    let other = difference_shown c.args.other in
    let known = difference_shown c.in-Some.known in
    ap (λ (b : Bool). Some (cond b other known)) (sym (sym c.is_earlier.ensures ∙ c.if-is_earlier.true))
    ∙ sym (said_first-next others known other (sym is ∙ ap (option_map difference_shown) c.in-Some.is))

pub returns-else-is_earlier-clause-value : goal.returns-else-is_earlier-clause-value
returns-else-is_earlier-clause-value c = λ others is.
    let other = difference_shown c.args.other in
    let known = difference_shown c.in-Some.known in
    ap (λ (b : Bool). Some (cond b other known)) (sym (sym c.is_earlier.ensures ∙ c.if-is_earlier.false))
    ∙ sym (said_first-next others known other (sym is ∙ ap (option_map difference_shown) c.in-Some.is))
