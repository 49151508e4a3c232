use Rattle.std.proofs.Common.{ap, sym, ◌∙◌, arith}
use Rattle.causes.specs.Members.{telling_of}
use Rattle.entry_causes.proofs.Telling.{telling-one, telling-several}
use Rattle.ttp_world.specs.declared.node.Ack.{Ack}
use Rattle.entry_causes.proofs.members.telling_of.Goals as goal

pub returns-then-count-eq1 : goal.returns-then-count-eq1
returns-then-count-eq1 c =
    telling-one c.args.node c.args.nodes (omega arith)
    ∙ ap (λ (a : Ack). telling_of c.args.node a c.args.nodes) (sym c.in-Closed.is)

pub returns-else-count-eq1 : goal.returns-else-count-eq1
returns-else-count-eq1 c =
    c.without.ensures ∙ telling-several c.args.node c.args.nodes (λ one. omega (arith, one))
    ∙ ap (λ (a : Ack). telling_of c.args.node a c.args.nodes) (sym c.in-Closed.is)
