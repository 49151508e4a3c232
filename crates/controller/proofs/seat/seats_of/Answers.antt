use Rattle.controller.proofs.Words.{◌+◌, ◌++◌, List, ◌∷◌, [], ap, ◌∙◌, arith, Outcome, Seat, length_push}
use Rattle.controller.proofs.Words.{map-append, replicate_more}
use Rattle.controller.specs.PlantStands.{no_outcome}
use Rattle.controller.proofs.Near.{first-controller}
use Rattle.controller.proofs.Parts.{each-push}
use Rattle.controller.proofs.seat.seats_of.Goals as goal

pub loop-k-preserved : goal.loop-k-preserved
loop-k-preserved c =
    let new = c.in_ok-new.ensures in
    let invariant = c.loop-k.invariant in
    rw c.in_ok-push.ensures.ok (record {
      count = length_push c.loop-k.seats _ ∙ ap (λ n. n + 1) invariant.count;
      seats = each-push _ _ invariant.seats
          (first-controller new.list (omega (arith, new.node, invariant.count)) new.stands);
      stand = each-push _ _ invariant.stand new.stands;
      outcomes = map-append (λ (seat : Seat). seat.outcome) c.loop-k.seats _
          ∙ ap (λ (os : List Outcome). os ++ no_outcome ∷ []) invariant.outcomes
          ∙ replicate_more c.loop-k.k no_outcome;
    })
