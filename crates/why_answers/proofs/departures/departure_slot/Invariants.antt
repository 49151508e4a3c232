use Rattle.std.proofs.Common.{◌≡◌, ◌<◌}
use Rattle.std.specs.Prelude.{IfSome}
use Rattle.run_costs.specs.Standing.{IsRunAfter}
use Rattle.why_answers.specs.Answer.{departure_before}
use Rattle.why_answers.proofs.departures.departure_slot.Given as goal

-- that of the slots so far
abbrev pub invariant-loop-slot : goal.invariant-loop-slot
invariant-loop-slot l = record {
  run : IsRunAfter l.run l.list l.script l.slot;
  departure : l.departure ≡ departure_before l.list l.script l.slot l.node;
  within : IfSome l.departure (λ t. t < l.slot);
}
