use Rattle.std.proofs.Common.{sym, ◌∙◌}
use Rattle.causes.specs.Missed.{channel_reason, missed_cause, nobody_reason}
use Rattle.entry_causes.proofs.Decisions.{missed-a, missed-b, missed-each, missed-nobody, told-each, told-one}
use Rattle.run_rows.specs.Rows.{past_slots, run_slot}
use Rattle.ttp_world.specs.declared.script.Channel.TheVariants as channel
use Rattle.entry_causes.proofs.missed.add_missed.Goals as goal

pub returns-then-not-has_frames : goal.returns-then-not-has_frames
returns-then-not-has_frames c =
    let s = run_slot c.args.run.now c.args.slot in
    let before = past_slots c.args.run.now c.args.slot in
    let k = c.args.node in
    let v = c.args.verdict in
    told-one _ c.args.out.now c.add_nobody_reason.new.out (nobody_reason k s before) (missed_cause k s before v)
    (missed-nobody k s before v (sym c.has_frames.ensures ∙ c.if-not-has_frames.true)) c.in_ok-add_nobody_reason.ensures

pub returns-then-decides : goal.returns-then-decides
returns-then-decides c =
    let s = run_slot c.args.run.now c.args.slot in
    let before = past_slots c.args.run.now c.args.slot in
    let k = c.args.node in
    let v = c.args.verdict in
    told-one _ c.args.out.now c.add_channel_reason.new.out (channel_reason k s before channel.A)
    (missed_cause k s before v)
    (missed-a k s before v (sym c.has_frames.ensures ∙ c.if-not-has_frames.false)
    (sym c.decides.ensures ∙ c.if-decides.true)) c.in_ok-on_a.ensures

pub returns-then-decides-2 : goal.returns-then-decides-2
returns-then-decides-2 c =
    let s = run_slot c.args.run.now c.args.slot in
    let before = past_slots c.args.run.now c.args.slot in
    let k = c.args.node in
    let v = c.args.verdict in
    told-one _ c.args.out.now c.add_channel_reason-then-decides-2.new.out (channel_reason k s before channel.B)
    (missed_cause k s before v)
    (missed-b k s before v (sym c.has_frames.ensures ∙ c.if-not-has_frames.false)
    (sym c.decides.ensures ∙ c.if-decides.false) (sym c.decides-2.ensures ∙ c.if-decides-2.true)) c.in_ok-on_b.ensures

pub returns : goal.returns
returns c =
    let s = run_slot c.args.run.now c.args.slot in
    let before = past_slots c.args.run.now c.args.slot in
    let k = c.args.node in
    let v = c.args.verdict in
    told-each _ _ c.args.out.now c.add_channel_reason-2.new.out c.add_channel_reason-3.new.out
    (channel_reason k s before channel.A) (channel_reason k s before channel.B) (missed_cause k s before v)
    (missed-each k s before v (sym c.has_frames.ensures ∙ c.if-not-has_frames.false)
    (sym c.decides.ensures ∙ c.if-decides.false) (sym c.decides-2.ensures ∙ c.if-decides-2.false))
    c.in_ok-a.ensures c.in_ok-b.ensures
