use Rattle.std.proofs.Common.{arith}
use Rattle.ttp_world.specs.Hypothesis.{is_correct_after}
use Rattle.ttp_world.specs.Safety.{newest_slot}
use Rattle.ttp_world.specs.World.{world}
use Rattle.ttp_world.proofs.Worlds.{length-world}
use Rattle.mode_change.proofs.Alike.{one-mode}
use Rattle.mode_change.proofs.one_mode.Goals as goal

pub returns : goal.returns
returns c numbers legal after within =
    let list = c.args.list.now in
    let script = c.args.script.now in
    let history = world list script numbers in
    let count = length-world list script numbers in
    one-mode list script (is_correct_after list script (newest_slot history)) c.args.start history
    (omega (arith, after, count)) (c.same_frames.ensures.frames numbers legal after within)
    (c.same_frames.ensures.stints numbers legal after within)
