use Rattle.std.proofs.Common.{◌≡◌, true, false, ap, subst, sym, ◌∙◌, refl}
use Rattle.std.proofs.lemmas.Bool.{false≢true}
use Rattle.ttp_world.specs.ZerosWorld.{all_zeros}
use Rattle.causes.specs.RunSlots.{is_sent, is_started, past_in}
use Rattle.entry_causes.proofs.FromBelow.{with_node-room, slot_in-list}
use Rattle.entry_causes.proofs.BytesSent.{bytes-own, bytes-started}
use Rattle.entry_causes.proofs.MemberFacts.{members-in}
use Rattle.run_rows.specs.Rows.{run_slot}
use Rattle.run_rows.specs.declared.row.NodeRow.{NodeRow}
use Rattle.ttp_base.specs.NodeSet.{with_node}
use Rattle.ttp_frame.specs.Shape.{HaveRoom}
use Rattle.ttp_world.specs.Act.{coming_place}
use Rattle.ttp_world.specs.Conduct.{cold_start_frame, payload_sent}
use Rattle.ttp_world.specs.Diary.{cstate_at, joined_place}
use Rattle.ttp_world.specs.Frame.{frame, header_of}
use Rattle.ttp_world.specs.Medium.{is_sending}
use Rattle.ttp_world.specs.Medl.{is_wide, kind_at, member_width}
use Rattle.ttp_world.specs.World.{chosen_of}
use Rattle.ttp_world.specs.declared.medl.Medl.{Medl}
use Rattle.ttp_world.specs.declared.node.CState.{CState}
use Rattle.ttp_world.specs.declared.node.Entry.{Entry}
use Rattle.ttp_world.specs.declared.node.Entry.TheVariants as entry
use Rattle.entry_causes.proofs.frames.frame_sent.Goals as goal
use Rattle.entry_causes.proofs.frames.frame_sent.Goals.{After-cstate_in-cstate}

-- who sends a frame that is not of its own slot starts
starts : (e : Entry) → is_sending e ≡ true → is_sent e ≡ false → is_started e ≡ true
starts entry.Started sends other = refl
starts (entry.Sent message) sends other = absurd (false≢true (sym other))
starts e sends other = absurd (false≢true sends)

own_cstate_is : (c : After-cstate_in-cstate)
    → c.cstate_in-cstate.result
    ≡ cstate_at (coming_place c.args.run.now.list (past_in c.args.node (run_slot c.args.run.now c.args.slot)))
    (with_node (past_in c.args.node (run_slot c.args.run.now c.args.slot)).members c.args.node)
own_cstate_is c =
    let run = c.args.run.now in
    let past = past_in c.args.node (run_slot run c.args.slot) in
    c.cstate_in-cstate.ensures.value
    ∙ (λ i. cstate_at (coming_place (slot_in-list run.list run.script c.args.slot i) past) (c.members_sent.ensures i))

pub own_frame-requires-clause-members : goal.own_frame-requires-clause-members
own_frame-requires-clause-members c =
    let run = c.args.run.now in
    let past = past_in c.args.node (run_slot run c.args.slot) in
    subst (λ (l : Medl). HaveRoom (is_wide l) c.cstate_in-cstate.result.members) (sym c.list-list.ensures.value)
    (subst (λ (s : CState). HaveRoom (is_wide run.list) s.members)
    (sym (own_cstate_is ((goal.at.own_frame-requires-clause-members c).After-cstate_in-cstate)))
    (with_node-room run.list c.list-list.ensures.valid past.members c.args.node
    (members-in run.list run.script c.args.slot c.args.node c.requires.node) c.requires.node))

pub returns-then-is_own : goal.returns-then-is_own
returns-then-is_own c =
    let run = c.args.run.now in
    let k = c.args.node in
    let lists = c.list-list.ensures.value in
    let cs = own_cstate_is ((goal.at.returns-then-is_own c).After-cstate_in-cstate) in
    let sent = ap (λ (r : NodeRow). is_sent r.entry) (sym c.row.ensures) ∙ sym c.is_own.ensures ∙ c.if-is_own.true in
    c.own_frame.ensures
    ∙ (λ i. frame (member_width (lists i)) (header_of (kind_at (lists i) (cs i).round (cs i).slot)) (cs i)
    (payload_sent (lists i) (joined_place (cs i)) (chosen_of (all_zeros (lists i)) k)) (lists i).schedule)
    ∙ sym (bytes-own run.list run.script c.args.slot k c.requires.node sent)

pub returns-else-is_own : goal.returns-else-is_own
returns-else-is_own c =
    let run = c.args.run.now in
    let k = c.args.node in
    let other = ap (λ (r : NodeRow). is_sent r.entry) (sym c.row.ensures) ∙ sym c.is_own.ensures ∙ c.if-is_own.false in
    c.cold_start.ensures
    ∙ ap (λ (l : Medl). cold_start_frame l k) c.list-list.ensures.value
    ∙ sym (bytes-started run.list run.script c.args.slot k c.requires.node (starts _ c.requires.sends other))
