use Rattle.hypothesis.proofs.Words.{◌≡◌, replicate, Some, inl, inr, ap, sym, ◌∙◌, arith, option_or, first_too_early}
use Rattle.hypothesis.proofs.FaultSlots.{too_early-soon, too_early-many}
use Rattle.hypothesis.proofs.distances.early_with.Goals as goal

pub returns-in-None : goal.returns-in-None
returns-in-None c = λ gap wide.
    let soon : first_too_early gap c.args.earliest (replicate c.args.count c.args.slot) ≡ Some c.args.slot =
    elim c.if-slot-earliest.either [
      | inl many ↦ too_early-many gap c.args.earliest c.args.slot c.args.count wide many
      | inr one ↦ too_early-soon gap c.args.earliest c.args.slot c.args.count (omega arith) one.2
    ] in
    sym (ap (λ early. option_or early
    (first_too_early gap c.args.earliest (replicate c.args.count c.args.slot))) c.in-None.is ∙ soon)
