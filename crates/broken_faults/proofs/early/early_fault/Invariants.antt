use Rattle.std.proofs.Common.{◌+◌, ◌*◌, ◌<◌, None}
use Rattle.ttp_base.specs.NodeSet.{most_nodes}
use Rattle.ttp_world.specs.declared.script.TheConstants.{SLOT_LIMIT}
use Rattle.hypothesis.specs.FaultyRuns.{IsBackAt}
use Rattle.hypothesis.specs.Standing.{told_start}
use Rattle.broken_faults.specs.declared.early.Since.TheVariants as since
use Rattle.broken_faults.specs.Faults.{faults_before, slot_since}
use Rattle.broken_faults.specs.Seen.{LooksOver}
use Rattle.broken_faults.proofs.early.early_fault.Given as goal

-- no fault so far came too early
abbrev pub invariant-loop-slot : goal.invariant-loop-slot
invariant-loop-slot l = record {
  walk : IsBackAt l.list l.script l.slot l.walk;
  bound : slot_since l.since < SLOT_LIMIT + 3 * most_nodes;
  over : LooksOver l.list l.script (told_start l.start) (since.Start l.start.slot)
      (faults_before l.list l.script (told_start l.start) l.slot) None l.since;
}
