use Rattle.std.proofs.Common.{◌+◌, arith}
use Rattle.ttp_world.specs.ZerosWorld.{zeros_world}
use Rattle.causes.specs.Causes.{cause_at, newest_cause}
use Rattle.causes.specs.RunSlots.{slots_of_run}
use Rattle.ttp_world.proofs.ZerosWorlds.{length-zeros_world}
use Rattle.run_rows.specs.Rows.{past_slots}
use Rattle.why_answers.proofs.RunSpots.{cause-at}
use Rattle.why_answers.proofs.FromBelow.{if_ok-equal}
use Rattle.why_story.specs.RunSource.{spot_at}
use Rattle.why_answers.proofs.told.RunCausesCauses.cause.Goals as goal

pub cause-requires-clause-slot : goal.cause-requires-clause-slot
cause-requires-clause-slot c =
    let run = c.args.self.now.run.now in
    omega (arith, c.requires.slot, length-zeros_world run.list run.script run.slots)

pub returns : goal.returns
returns c =
    let run = c.args.self.now.run.now in
    if_ok-equal c.cause.result (newest_cause c.args.node (past_slots run (c.args.slot + 1)))
    (cause_at (slots_of_run run.list run.script (zeros_world run.list run.script run.slots))
    (spot_at c.args.slot c.args.node))
    c.cause.ensures
    (cause-at run.list run.script run.slots c.args.slot c.args.node
    (omega (arith, c.requires.slot, length-zeros_world run.list run.script run.slots)))
