use Rattle.std.proofs.Common.{◌≡◌, ◌-◌, [], take}
use Rattle.causes.specs.RunSlots.{judged_so}
use Rattle.run_rows.specs.Rows.{past_slots}
use Rattle.ttp_world.specs.Acknowledgement.{is_correct}
use Rattle.entry_causes.proofs.own.first_correct.Given as goal

-- none in the slots before here
abbrev pub invariant-loop-at : goal.invariant-loop-at
invariant-loop-at l = judged_so is_correct l.node (take (l.at - l.from) (past_slots l.run l.at)) ≡ []
