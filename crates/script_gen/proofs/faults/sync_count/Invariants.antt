use Rattle.script_gen.proofs.Words.{◌≡◌, ◌≤◌, count_by}
use Rattle.std.proofs.Common.{take}
use Rattle.script_gen.proofs.faults.sync_count.Given as goal

abbrev pub invariant-loop-plan : goal.invariant-loop-plan
invariant-loop-plan l =
    (l.count ≡ count_by (λ plan. plan.sync) (take l.plan-index l.slots)) × (l.count ≤ l.plan-index)
