use Rattle.controller.proofs.Words.{refl, ap, arith}
use Rattle.controller.proofs.Stints.{idle}
use Rattle.controller.proofs.node.Node.new.Goals as goal

pub returns-clause-within : goal.returns-clause-within
returns-clause-within c =
    let node = c.requires.node in
    idle c.args.list.now c.args.k _ c.requires.valid node refl refl refl c.empty.ensures
    (ap (λ counts. counts.accepted) c.none.ensures) (ap (λ counts. counts.rejected) c.none.ensures) c.new.ensures
    (omega (arith, c.new-2.ensures.limit, c.first_limit.ensures)) c.new-3.ensures
