use Rattle.fault_runs.proofs.Words.{◌≡◌, false, length, take, nat_le, list_any}
use Rattle.fault_runs.proofs.tally.has_pair.Given as goal

-- none of those so far
abbrev pub invariant-loop-members : goal.invariant-loop-members
invariant-loop-members l = list_any (λ members. nat_le 2 (length members)) (take l.members-index l.sets) ≡ false
