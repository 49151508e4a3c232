use Rattle.controller.proofs.Words.{◌∙◌, diary_of, surroundings_of, past_of, Ended, state_of}
use Rattle.controller.proofs.Near.{ended-clock}
use Rattle.controller.proofs.Parts.{each-of}
use Rattle.controller.proofs.plant.Plant.node.Goals as goal

pub returns-clause-shows : goal.returns-clause-shows
returns-clause-shows c = λ script history stands.
    let k = c.args.k in
    let of = c.seat.ensures.is in
    c.state.ensures.shows (diary_of history k) (surroundings_of script history k) Ended
    (each-of stands.seats k c.seat.ensures.there)
    ∙ (λ i. state_of (past_of (of.list i) (of.node i) (diary_of history k) (surroundings_of script history k)))

pub returns-clause-near : goal.returns-clause-near
returns-clause-near c =
    let of = c.seat.ensures.is in
    rw (c.state.ensures.clock, ← ended-clock c.seat.result.now.controller of.turn) of.clock
