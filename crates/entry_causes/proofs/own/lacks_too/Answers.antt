use Rattle.std.proofs.Common.{Bool, ◌&&◌, not, ap, sym, ◌∙◌}
use Rattle.ttp_base.specs.NodeSet.{has_node}
use Rattle.entry_causes.proofs.own.lacks_too.Goals as goal

pub returns-then-not-has : goal.returns-then-not-has
returns-then-not-has c =
    sym
    (ap (λ (b : Bool). b && not (has_node c.args.sent c.args.member)) (sym c.has.ensures ∙ c.if-not-has.true))

pub returns : goal.returns
returns c =
    ap not c.has-2.ensures
    ∙ sym
    (ap (λ (b : Bool). b && not (has_node c.args.sent c.args.member)) (sym c.has.ensures ∙ c.if-not-has.false))
