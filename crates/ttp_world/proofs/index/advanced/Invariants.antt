use Rattle.ttp_world.proofs.Words.{◌≤◌, length}
use Rattle.ttp_world.proofs.index.advanced.Given as goal

abbrev pub invariant-loop : goal.invariant-loop
invariant-loop l = l.place ≤ length l.steps
