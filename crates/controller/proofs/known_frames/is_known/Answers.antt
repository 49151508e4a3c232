use Rattle.controller.proofs.Words.{sym, ◌∙◌, and_parts, eqb-true}
use Rattle.controller.proofs.known_frames.is_known.Goals as goal

pub returns-then-is_judged : goal.returns-then-is_judged
returns-then-is_judged c same =
    let times = and_parts _ _ (sym c.eq.ensures ∙ same) in
    let rounds = and_parts _ _ times.1 in
    let slots = and_parts _ _ rounds.1 in (
      c.if-is_judged.true,
      record {
        time = eqb-true _ _ times.0;
        round = eqb-true _ _ rounds.0;
        slot = eqb-true _ _ slots.0;
        members = eqb-true _ _ slots.1;
      },
    )
