use Rattle.std.proofs.Common.{◌≡◌, false, take}
use Rattle.std.specs.List.{list_any}
use Rattle.ttp_world.specs.Medium.{is_sending}
use Rattle.single_faults.proofs.tried.has_frame.Given as goal

-- none of the nodes so far sends
abbrev pub invariant-loop-entry : goal.invariant-loop-entry
invariant-loop-entry l = list_any is_sending (take l.entry-index l.row) ≡ false
