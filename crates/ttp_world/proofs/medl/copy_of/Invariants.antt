use Rattle.ttp_world.proofs.Words.{◌≡◌, take}
use Rattle.ttp_world.proofs.medl.copy_of.Given as goal

abbrev pub invariant-loop-slot : goal.invariant-loop-slot
invariant-loop-slot l = l.copy ≡ take l.slot-index l.slots
