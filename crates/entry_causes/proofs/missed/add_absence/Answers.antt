use Rattle.std.proofs.Common.{[], ◌∷◌, refl, ap, sym, ◌∙◌}
use Rattle.causes.specs.Missed.{absence_reason, absence_since, elsewhere}
use Rattle.causes.specs.RunSlots.{entry_in_slot}
use Rattle.causes.specs.Sources.{by_entries}
use Rattle.causes.specs.declared.cause.Miss.TheVariants as miss
use Rattle.causes.specs.declared.cause.Spot.{Spot}
use Rattle.entry_causes.proofs.Adding.{adds-none}
use Rattle.entry_causes.proofs.Past.{spot-in}
use Rattle.entry_causes.proofs.Reasons.{reason-same, tells-same}
use Rattle.run_rows.specs.Rows.{past_slots, run_slot}
use Rattle.run_rows.specs.declared.row.NodeRow.{NodeRow}
use Rattle.entry_causes.proofs.missed.add_absence.Goals as goal

pub returns-in-Off : goal.returns-in-Off
returns-in-Off c =
    let run = c.args.run.now in
    let p = c.args.peer in
    let k = c.args.node in
    let s = run_slot run c.args.slot in
    let before = past_slots run c.args.slot in
    let here = ap (λ (r : NodeRow). r.entry) (sym c.row.ensures) ∙ c.in-Off.is in
    let reason = absence_reason p k s before (entry_in_slot p s) in
    reason-same (miss.Off p) c.args.out.now c.args.out.now (by_entries (miss.Off p) []) reason
    (ap (absence_reason p k s before) (sym here)) (refl, adds-none c.args.out.now)

pub returns-in-Gone : goal.returns-in-Gone
returns-in-Gone c =
    let run = c.args.run.now in
    let p = c.args.peer in
    let k = c.args.node in
    let s = run_slot run c.args.slot in
    let before = past_slots run c.args.slot in
    let here = ap (λ (r : NodeRow). r.entry) (sym c.row.ensures) ∙ c.in-Gone.is in
    let reason = absence_reason p k s before (entry_in_slot p s) in
    let left = c.newest_departure.result in
    tells-same c.add_absence_since.result c.args.out.now
    c.add_absence_since.new.out (absence_since left.node left) reason
    (ap (λ (spot : Spot). absence_since spot.node spot) c.newest_departure.ensures
    ∙ ap (absence_reason p k s before) (sym here)) c.add_absence_since.ensures

pub returns-in-Left : goal.returns-in-Left
returns-in-Left c =
    let run = c.args.run.now in
    let p = c.args.peer in
    let k = c.args.node in
    let s = run_slot run c.args.slot in
    let before = past_slots run c.args.slot in
    let here = ap (λ (r : NodeRow). r.entry) (sym c.row.ensures) ∙ c.in-Left.is in
    let reason = absence_reason p k s before (entry_in_slot p s) in
    tells-same c.add_leaving.result c.args.out.now c.add_leaving.new.out _ reason
    (ap (absence_reason p k s before) (sym here)) (c.add_leaving.ensures _)

pub returns-in_ok-add_entry-in-Waited : goal.returns-in_ok-add_entry-in-Waited
returns-in_ok-add_entry-in-Waited c =
    let run = c.args.run.now in
    let p = c.args.peer in
    let k = c.args.node in
    let s = run_slot run c.args.slot in
    let before = past_slots run c.args.slot in
    let here = ap (λ (r : NodeRow). r.entry) (sym c.row.ensures) ∙ c.in-Waited.is in
    let reason = absence_reason p k s before (entry_in_slot p s) in
    reason-same (miss.Listens p) c.args.out.now c.add_entry.new.self
    (by_entries (miss.Listens p) (record { slot = c.args.slot; node = p } ∷ [])) reason
    (ap (λ (spot : Spot). by_entries (miss.Listens p) (spot ∷ [])) (sym (spot-in run.list run.script c.args.slot p))
    ∙ ap (absence_reason p k s before) (sym here)) (refl, c.in_ok-add_entry-in-Waited.ensures)

pub returns-in_ok-add_entry-in-Retried : goal.returns-in_ok-add_entry-in-Retried
returns-in_ok-add_entry-in-Retried c =
    let run = c.args.run.now in
    let p = c.args.peer in
    let k = c.args.node in
    let s = run_slot run c.args.slot in
    let before = past_slots run c.args.slot in
    let here = ap (λ (r : NodeRow). r.entry) (sym c.row.ensures) ∙ c.in-Retried.is in
    let reason = absence_reason p k s before (entry_in_slot p s) in
    reason-same (miss.Retries p) c.args.out.now c.add_entry-in-Retried.new.self
    (by_entries (miss.Retries p) (record { slot = c.args.slot; node = p } ∷ [])) reason
    (ap (λ (spot : Spot). by_entries (miss.Retries p) (spot ∷ [])) (sym (spot-in run.list run.script c.args.slot p))
    ∙ ap (absence_reason p k s before) (sym here)) (refl, c.in_ok-add_entry-in-Retried.ensures)

pub returns-in-Started : goal.returns-in-Started
returns-in-Started c =
    let run = c.args.run.now in
    let p = c.args.peer in
    let k = c.args.node in
    let s = run_slot run c.args.slot in
    let before = past_slots run c.args.slot in
    let here = ap (λ (r : NodeRow). r.entry) (sym c.row.ensures) ∙ c.in-Started.is in
    let reason = absence_reason p k s before (entry_in_slot p s) in
    tells-same c.add_elsewhere.result c.args.out.now c.add_elsewhere.new.out (elsewhere p k before) reason
    (ap (absence_reason p k s before) (sym here)) c.add_elsewhere.ensures

pub returns-in-Sent : goal.returns-in-Sent
returns-in-Sent c =
    let run = c.args.run.now in
    let p = c.args.peer in
    let k = c.args.node in
    let s = run_slot run c.args.slot in
    let before = past_slots run c.args.slot in
    let here = ap (λ (r : NodeRow). r.entry) (sym c.row.ensures) ∙ c.in-Sent.is in
    let reason = absence_reason p k s before (entry_in_slot p s) in
    tells-same c.add_elsewhere-in-Sent.result c.args.out.now
    c.add_elsewhere-in-Sent.new.out (elsewhere p k before) reason
    (ap (absence_reason p k s before) (sym here)) c.add_elsewhere-in-Sent.ensures

pub returns-in-Joined : goal.returns-in-Joined
returns-in-Joined c =
    let run = c.args.run.now in
    let p = c.args.peer in
    let k = c.args.node in
    let s = run_slot run c.args.slot in
    let before = past_slots run c.args.slot in
    let here = ap (λ (r : NodeRow). r.entry) (sym c.row.ensures) ∙ c.in-Joined.is in
    let reason = absence_reason p k s before (entry_in_slot p s) in
    tells-same c.add_elsewhere-in-Joined.result c.args.out.now
    c.add_elsewhere-in-Joined.new.out (elsewhere p k before) reason
    (ap (absence_reason p k s before) (sym here)) c.add_elsewhere-in-Joined.ensures

pub returns-in-Judged : goal.returns-in-Judged
returns-in-Judged c =
    let run = c.args.run.now in
    let p = c.args.peer in
    let k = c.args.node in
    let s = run_slot run c.args.slot in
    let before = past_slots run c.args.slot in
    let here = ap (λ (r : NodeRow). r.entry) (sym c.row.ensures) ∙ c.in-Judged.is in
    let reason = absence_reason p k s before (entry_in_slot p s) in
    tells-same c.add_elsewhere-in-Judged.result c.args.out.now
    c.add_elsewhere-in-Judged.new.out (elsewhere p k before) reason
    (ap (absence_reason p k s before) (sym here)) c.add_elsewhere-in-Judged.ensures
