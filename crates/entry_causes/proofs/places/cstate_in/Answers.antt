use Rattle.std.proofs.Common.{◌≡◌, ap, sym, ◌∙◌, arith, length}
use Rattle.causes.specs.RunSlots.{past_in, place_of_node}
use Rattle.entry_causes.proofs.PlaceFacts.{place-before, place-coming}
use Rattle.entry_causes.proofs.FromBelow.{slot_in-list}
use Rattle.run_rows.specs.Rows.{run_slot}
use Rattle.run_rows.specs.declared.row.NodeRow.{NodeRow}
use Rattle.ttp_world.proofs.Lists.{nodes-most}
use Rattle.ttp_world.specs.Diary.{Place, cstate_at, joined_place, next_place}
use Rattle.ttp_world.specs.declared.medl.Medl.{Medl}
use Rattle.ttp_world.specs.declared.node.CState.{CState}
use Rattle.entry_causes.proofs.places.cstate_in.Goals as goal

pub at-clock-requires-clause-round : goal.at-clock-requires-clause-round
at-clock-requires-clause-round c =
    let run = c.args.run.now in
    let before = place-before run.list run.script c.args.slot c.args.node c.list.ensures.valid c.requires.node in
    let same = ap (λ (r : NodeRow). r.begun.cstate.round) c.row.ensures in
    let rounds = ap (λ (l : Medl). l.rounds) c.list.ensures.value in
    omega (arith, same, rounds, before.round)

pub at-clock-requires-clause-slot : goal.at-clock-requires-clause-slot
at-clock-requires-clause-slot c =
    let run = c.args.run.now in
    let before = place-before run.list run.script c.args.slot c.args.node c.list.ensures.valid c.requires.node in
    let same = ap (λ (r : NodeRow). r.begun.cstate.slot) c.row.ensures in
    let slots = ap (λ (l : Medl). length l.slots) c.list.ensures.value in
    omega (arith, same, slots, before.slot)

stands : (c : goal.After-cstate)
    → c.cstate.result ≡ cstate_at (place_of_node c.args.node (run_slot c.args.run.now c.args.slot)) c.args.members
stands c =
    let run = c.args.run.now in
    let lists = c.list.ensures.value ∙ sym (slot_in-list run.list run.script c.args.slot) in
    let next = c.next.ensures c.list.result.now (joined_place c.row.result.now.begun.cstate) c.at-clock.ensures in
    c.cstate.ensures
    ∙ ap (λ (p : Place). cstate_at p c.args.members)
    (next.place ∙ (λ i. next_place (lists i) (joined_place (c.row.ensures i).begun.cstate)))

pub returns-clause-value : goal.returns-clause-value
returns-clause-value c = stands c

pub returns-clause-round : goal.returns-clause-round
returns-clause-round c =
    let run = c.args.run.now in
    let place = place-coming run.list run.script c.args.slot c.args.node c.list.ensures.valid c.requires.node in
    let same = ap (λ (s : CState). s.round) (stands c) in
    let there =
    ap (λ (l : Medl). (next_place l (past_in c.args.node (run_slot run c.args.slot)).place).round)
    (slot_in-list run.list run.script c.args.slot) in
    omega (arith, same, there, place.round)

pub returns-clause-slot : goal.returns-clause-slot
returns-clause-slot c =
    let run = c.args.run.now in
    let place = place-coming run.list run.script c.args.slot c.args.node c.list.ensures.valid c.requires.node in
    let same = ap (λ (s : CState). s.slot) (stands c) in
    let there =
    ap (λ (l : Medl). (next_place l (past_in c.args.node (run_slot run c.args.slot)).place).slot)
    (slot_in-list run.list run.script c.args.slot) in
    omega (arith, same, there, place.slot)

pub returns-clause-nodes : goal.returns-clause-nodes
returns-clause-nodes c = nodes-most c.args.run.now.list c.list.ensures.valid
