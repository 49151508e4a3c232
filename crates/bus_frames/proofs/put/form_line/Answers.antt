use Rattle.std.proofs.Common.{◌∙◌, ap, sym}
use Rattle.bus_frames.specs.FrameText.{frame_line}
use Rattle.bus_frames.proofs.put.form_line.Goals as goal

pub signal_line-requires-clause-long : goal.signal_line-requires-clause-long
signal_line-requires-clause-long c = c.requires.long c.if-meets.false

pub returns-then-meets : goal.returns-then-meets
returns-then-meets c s clock shows =
    c.collision_line.ensures s
    ∙ ap (λ b. frame_line c.args.list.now c.args.slot c.args.channel c.args.sending.now b s) (sym c.if-meets.true)

pub returns-else-meets : goal.returns-else-meets
returns-else-meets c s clock shows =
    c.signal_line.ensures s clock (shows c.if-meets.false)
    ∙ ap (λ b. frame_line c.args.list.now c.args.slot c.args.channel c.args.sending.now b s) (sym c.if-meets.false)
