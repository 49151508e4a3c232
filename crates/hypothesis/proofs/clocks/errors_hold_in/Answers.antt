use Rattle.hypothesis.proofs.Words.{w64, FitsSigned, ap, sym, ◌∙◌, rules, to_z-of_z, errors_hold_within}
use Rattle.hypothesis.proofs.clocks.errors_hold_in.Goals as goal

pub returns-in-Some-clause-known : goal.returns-in-Some-clause-known
returns-in-Some-clause-known c = λ t from before.
    let fits : FitsSigned w64 c.args.list.now.error = search rules in
    ap (λ bound. errors_hold_within c.args.list.now c.args.script.now bound t)
    (sym (to_z-of_z w64 c.args.list.now.error fits)) ∙ c.in-Some.ensures.stands t from before
