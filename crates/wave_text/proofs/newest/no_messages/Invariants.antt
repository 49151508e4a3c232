use Rattle.wave_text.proofs.Words.{◌≡◌, length}
use Rattle.wave_text.proofs.newest.no_messages.Given as goal

abbrev pub invariant-loop : goal.invariant-loop
invariant-loop l = length l.messages.items ≡ l.counter
