use Rattle.controller.proofs.Words.{◌≡◌, length, AreSeats, IsEnded, most_ahead, replicate}
use Rattle.controller.specs.PlantStands.{no_outcome, outcomes_of, AllStandAtFirst}
use Rattle.controller.proofs.seat.seats_of.Given as goal

abbrev pub invariant-loop-k : goal.invariant-loop-k
invariant-loop-k l = record {
  count : length l.seats ≡ l.k;
  seats : AreSeats l.list IsEnded (most_ahead 0) 0 l.seats;
  stand : AllStandAtFirst l.seats;
  outcomes : outcomes_of l.seats ≡ replicate l.k no_outcome;
}
