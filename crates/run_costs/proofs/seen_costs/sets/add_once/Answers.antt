use Rattle.std.proofs.Common.{List, ℕ, ◌≡◌, subst, sym, ap, ◌∙◌}
use Rattle.std.specs.Prelude.{OnOk}
use Rattle.std.specs.List.{list_any}
use Rattle.std.specs.Str.{bytes_eq}
use Rattle.run_costs.proofs.Distinct.{once-there, once-new}
use Rattle.run_costs.proofs.seen_costs.sets.add_once.Goals as goal

pub returns-then-has_set : goal.returns-then-has_set
returns-then-has_set c = λ all are.
    once-there all c.args.sets.now c.args.set are
    (ap (list_any (bytes_eq c.args.set)) (sym c.as_slice.ensures) ∙ sym c.has_set.ensures ∙ c.if-has_set.true)

pub returns : goal.returns
returns c = λ all are.
    subst (λ (sets : List (List ℕ)). OnOk c.push.result (c.push.new.self ≡ sets))
    (once-new all c.args.sets.now c.args.set are
    (ap (list_any (bytes_eq c.args.set)) (sym c.as_slice.ensures) ∙ sym c.has_set.ensures ∙ c.if-has_set.false))
    c.push.ensures.ok
