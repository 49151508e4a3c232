use Rattle.std.proofs.lemmas.Result.{err_from_is_err_and}
use Rattle.ttp_base.proofs.Outputs.{CutShort-after, CutShort-more, Wrote-join}
use Rattle.ttp_world.specs.declared.script.Channel.TheVariants as channel
use Rattle.bus_frames.specs.FrameText.{channel_lines}
use Rattle.bus_frames.proofs.Texts.{on-err, on-ok}
use Rattle.bus_frames.proofs.put.put_slot.Goals as goal

pub returns-in_err-put_channel-clause-failed : goal.returns-in_err-put_channel-clause-failed
returns-in_err-put_channel-clause-failed g c chosen row before stands =
    let failed = err_from_is_err_and c.from_residual.result c.from_residual.ensures.1 in
    let list = c.args.list.now in
    let script = c.args.script.now in
    rw failed.1 (CutShort-more _ _ (channel_lines list script row before channel.A)
    (channel_lines list script row before channel.B) (c.in_err-put_channel.ensures.failed chosen row before stands))

pub returns-clause-ok : goal.returns-clause-ok
returns-clause-ok g c chosen row before stands =
    let list = c.args.list.now in
    let script = c.args.script.now in
    on-ok c.put_channel-2.result
    (Wrote-join _ _ _ (channel_lines list script row before channel.A) (channel_lines list script row before channel.B)
    (c.in_ok-put_channel.ensures.ok chosen row before stands)) (c.put_channel-2.ensures.ok chosen row before stands)

pub returns-clause-failed : goal.returns-clause-failed
returns-clause-failed g c chosen row before stands =
    let list = c.args.list.now in
    let script = c.args.script.now in
    on-err c.put_channel-2.result
    (CutShort-after _ _ _ (channel_lines list script row before channel.A)
    (channel_lines list script row before channel.B)
    (c.in_ok-put_channel.ensures.ok chosen row before stands)) (c.put_channel-2.ensures.failed chosen row before stands)
