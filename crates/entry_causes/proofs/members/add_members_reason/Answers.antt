use Rattle.std.proofs.Common.{◌≡◌, ℕ, ◌<◌, Bool, List, filter, length, ap, subst, sym, ◌∙◌}
use Rattle.causes.specs.Members.{difference_reason, doubt_reason, is_one_of, members_reason}
use Rattle.causes.specs.Members.{difference_of}
use Rattle.causes.specs.RunSlots.{doubted_in, past_in}
use Rattle.std.proofs.Common.{map}
use Rattle.entry_causes.proofs.MemberFacts.{doubt-in}
use Rattle.entry_causes.proofs.Reasons.{tells-same}
use Rattle.entry_causes.proofs.Telling.{doubt-within, reason-none, reason-some, reason-told, telling-nodes}
use Rattle.entry_causes.specs.Differences.{IfDoubted, difference_shown}
use Rattle.run_rows.specs.Rows.{past_slots, run_slot}
use Rattle.run_rows.specs.declared.row.NodeRow.{NodeRow}
use Rattle.ttp_base.specs.NodeSet.{below, has_node}
use Rattle.ttp_world.proofs.Lists.{nodes-most}
use Rattle.ttp_world.proofs.WorldFacts.{AreNodes-filter}
use Rattle.ttp_world.specs.Membership.{AreNodes}
use Rattle.ttp_world.specs.declared.medl.Medl.{Medl}
use Rattle.ttp_world.specs.declared.node.Ack.{Ack}
use Rattle.entry_causes.proofs.members.add_members_reason.Goals as goal

pub telling_of-telling-requires-clause-doubted : goal.telling_of-telling-requires-clause-doubted
telling_of-telling-requires-clause-doubted c =
    let run = c.args.run.now in
    let k = c.args.node in
    subst (λ (a : Ack). IfDoubted a (λ x. x < 24)) (sym (ap (λ (r : NodeRow). r.begun.ack) c.row.ensures))
    (doubt-within (past_in k (run_slot run c.args.slot)).ack (length run.list.slots) 24
    (nodes-most run.list c.list.ensures.valid)
    (doubt-in run.list run.script c.args.slot k c.list.ensures.valid c.requires.node))

pub earliest-requires-clause-telling : goal.earliest-requires-clause-telling
earliest-requires-clause-telling c =
    let run = c.args.run.now in
    let count : c.nodes.result ≡ length run.list.slots =
    c.nodes.ensures ∙ ap (λ (l : Medl). length l.slots) c.list.ensures.value in
    let p = λ (j : ℕ). is_one_of (has_node c.members_sent-sent.result j) (has_node c.members_due.result j) in
    let differ = c.differing-differing.ensures ∙ ap (λ (n : ℕ). filter p (below n)) count in
    subst (AreNodes run.list) (sym c.telling_of-telling.ensures)
    (telling-nodes run.list c.args.node c.row.result.now.begun.ack c.differing-differing.result
    (subst (AreNodes run.list) (sym differ) (AreNodes-filter run.list p)))

pub returns-in-Some : goal.returns-in-Some
returns-in-Some c =
    let run = c.args.run.now in
    let p = c.args.sender in
    let k = c.args.node in
    let s = run_slot run c.args.slot in
    let before = past_slots run c.args.slot in
    let d = difference_shown c.in-Some.difference in
    let sent = c.members_sent-sent.result in
    let telling = c.telling_of-telling.result in
    let differences = map (λ (j : ℕ). difference_of p k before (has_node sent j) j) telling in
    let told =
    reason-told run.list run.script c.args.slot p k c.nodes.result before c.row.result.now.begun.ack sent
    c.members_due.result c.differing-differing.result telling c.members_sent-sent.ensures c.members_due.ensures
    (c.nodes.ensures ∙ ap (λ (l : Medl). length l.slots) c.list.ensures.value)
    (ap (λ (r : NodeRow). r.begun.ack) c.row.ensures) c.differing-differing.ensures c.telling_of-telling.ensures in
    tells-same c.add_difference.result c.args.out.now c.add_difference.new.out (difference_reason before d)
    (members_reason p k s before)
    (sym (reason-some p k s before differences d (sym c.in-Some.ensures.value)) ∙ told) c.add_difference.ensures

pub returns-in-None : goal.returns-in-None
returns-in-None c =
    let run = c.args.run.now in
    let p = c.args.sender in
    let k = c.args.node in
    let s = run_slot run c.args.slot in
    let before = past_slots run c.args.slot in
    let sent = c.members_sent-sent.result in
    let telling = c.telling_of-telling.result in
    let differences = map (λ (j : ℕ). difference_of p k before (has_node sent j) j) telling in
    let told =
    reason-told run.list run.script c.args.slot p k c.nodes.result before c.row.result.now.begun.ack sent
    c.members_due.result c.differing-differing.result telling c.members_sent-sent.ensures c.members_due.ensures
    (c.nodes.ensures ∙ ap (λ (l : Medl). length l.slots) c.list.ensures.value)
    (ap (λ (r : NodeRow). r.begun.ack) c.row.ensures) c.differing-differing.ensures c.telling_of-telling.ensures in
    tells-same c.add_doubt_reason.result c.args.out.now c.add_doubt_reason.new.out
    (doubt_reason p k before c.has.result (doubted_in k s)) (members_reason p k s before)
    (ap (λ (b : Bool). doubt_reason p k before b (doubted_in k s))
    (c.has.ensures ∙ ap (λ (set : List ℕ). has_node set k) c.members_sent-sent.ensures)
    ∙ sym (reason-none p k s before differences (sym c.in-None.ensures.value)) ∙ told) c.add_doubt_reason.ensures
