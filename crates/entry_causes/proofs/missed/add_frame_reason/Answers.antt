use Rattle.std.proofs.Common.{◌≡◌, true, false, [], ◌∷◌, refl, ap, sym, ◌∙◌, FitsSigned, rules, w64}
use Rattle.std.proofs.lemmas.Int.{to_z-of_z}
use Rattle.causes.specs.Clocks.{clock_reason}
use Rattle.causes.specs.Members.{members_reason}
use Rattle.causes.specs.Missed.{elsewhere, frame_reason}
use Rattle.causes.specs.RunSlots.{is_started}
use Rattle.causes.specs.Sources.{by_entries}
use Rattle.causes.specs.declared.cause.Miss.TheVariants as miss
use Rattle.causes.specs.declared.cause.Spot.{Spot}
use Rattle.entry_causes.proofs.Past.{spot-in}
use Rattle.entry_causes.proofs.Reasons.{frame-cold, frame-elsewhere, frame-late, frame-members, reason-same, tells-same}
use Rattle.entry_causes.proofs.FromBelow.{slot_in-list}
use Rattle.run_rows.specs.Rows.{past_slots, run_slot}
use Rattle.run_rows.specs.declared.row.NodeRow.{NodeRow}
use Rattle.ttp_world.specs.Reception.{is_within_window}
use Rattle.ttp_world.specs.World.{deviation_in}
use Rattle.entry_causes.proofs.missed.add_frame_reason.Goals as goal

pub returns-then-is_started : goal.returns-then-is_started
returns-then-is_started c =
    let run = c.args.run.now in
    let p = c.args.sender in
    let k = c.args.node in
    let s = run_slot run c.args.slot in
    let before = past_slots run c.args.slot in
    let cold =
    ap (λ (r : NodeRow). is_started r.entry) (sym c.row.ensures) ∙ sym c.is_started.ensures ∙ c.if-is_started.true in
    reason-same (miss.ColdStart p) c.args.out.now c.add_entry.new.self
    (by_entries (miss.ColdStart p) (record { slot = c.args.slot; node = p } ∷ [])) (frame_reason p k s before)
    (ap (λ (spot : Spot). by_entries (miss.ColdStart p) (spot ∷ [])) (sym (spot-in run.list run.script c.args.slot p))
    ∙ sym (frame-cold p k s before cold))
    (refl, c.in_ok-add_entry.ensures)

pub returns-then-not-is_within_window : goal.returns-then-not-is_within_window
returns-then-not-is_within_window c =
    let run = c.args.run.now in
    let p = c.args.sender in
    let k = c.args.node in
    let s = run_slot run c.args.slot in
    let before = past_slots run c.args.slot in
    let cold =
    ap (λ (r : NodeRow). is_started r.entry) (sym c.row.ensures) ∙ sym c.is_started.ensures ∙ c.if-is_started.false in
    let fits : FitsSigned w64 c.deviation_in-deviation.result = search rules in
    let same = to_z-of_z w64 c.deviation_in-deviation.result fits in
    let lists = c.list.ensures.value ∙ sym (slot_in-list run.list run.script c.args.slot) in
    let near : is_within_window s.begun.list (deviation_in s.begun k p) ≡ false =
    sym (λ i. is_within_window (lists i) ((same ∙ c.deviation_in-deviation.ensures) i))
    ∙ sym c.is_within_window.ensures ∙ c.if-not-is_within_window.true in
    tells-same c.add_clock_reason.result c.args.out.now c.add_clock_reason.new.out (clock_reason p k s before)
    (frame_reason p k s before) (sym (frame-late p k s before cold near)) c.add_clock_reason.ensures

pub returns-then-not-is_same_place : goal.returns-then-not-is_same_place
returns-then-not-is_same_place c =
    let run = c.args.run.now in
    let p = c.args.sender in
    let k = c.args.node in
    let s = run_slot run c.args.slot in
    let before = past_slots run c.args.slot in
    let cold =
    ap (λ (r : NodeRow). is_started r.entry) (sym c.row.ensures) ∙ sym c.is_started.ensures ∙ c.if-is_started.false in
    let fits : FitsSigned w64 c.deviation_in-deviation.result = search rules in
    let same = to_z-of_z w64 c.deviation_in-deviation.result fits in
    let lists = c.list.ensures.value ∙ sym (slot_in-list run.list run.script c.args.slot) in
    let near : is_within_window s.begun.list (deviation_in s.begun k p) ≡ true =
    sym (λ i. is_within_window (lists i) ((same ∙ c.deviation_in-deviation.ensures) i))
    ∙ sym c.is_within_window.ensures ∙ c.if-not-is_within_window.false in
    tells-same c.add_elsewhere.result c.args.out.now c.add_elsewhere.new.out (elsewhere p k before)
    (frame_reason p k s before)
    (sym (frame-elsewhere p k s before cold near (sym c.is_same_place.ensures ∙ c.if-not-is_same_place.true)))
    c.add_elsewhere.ensures

pub returns : goal.returns
returns c =
    let run = c.args.run.now in
    let p = c.args.sender in
    let k = c.args.node in
    let s = run_slot run c.args.slot in
    let before = past_slots run c.args.slot in
    let cold =
    ap (λ (r : NodeRow). is_started r.entry) (sym c.row.ensures) ∙ sym c.is_started.ensures ∙ c.if-is_started.false in
    let fits : FitsSigned w64 c.deviation_in-deviation.result = search rules in
    let same = to_z-of_z w64 c.deviation_in-deviation.result fits in
    let lists = c.list.ensures.value ∙ sym (slot_in-list run.list run.script c.args.slot) in
    let near : is_within_window s.begun.list (deviation_in s.begun k p) ≡ true =
    sym (λ i. is_within_window (lists i) ((same ∙ c.deviation_in-deviation.ensures) i))
    ∙ sym c.is_within_window.ensures ∙ c.if-not-is_within_window.false in
    tells-same c.add_members_reason.result c.args.out.now c.add_members_reason.new.out (members_reason p k s before)
    (frame_reason p k s before)
    (sym (frame-members p k s before cold near (sym c.is_same_place.ensures ∙ c.if-not-is_same_place.false)))
    c.add_members_reason.ensures
