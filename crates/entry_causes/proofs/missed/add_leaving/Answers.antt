use Rattle.std.proofs.Common.{ap, sym, ◌∙◌}
use Rattle.causes.specs.Missed.{absence_reason, absence_since, elsewhere}
use Rattle.causes.specs.declared.cause.Spot.{Spot}
use Rattle.entry_causes.proofs.Past.{spot-in}
use Rattle.entry_causes.proofs.Reasons.{tells-same}
use Rattle.run_rows.specs.Rows.{past_slots, run_slot}
use Rattle.ttp_world.specs.declared.node.Entry.TheVariants as entry
use Rattle.ttp_world.specs.declared.node.Reason.{Reason}
use Rattle.entry_causes.proofs.missed.add_leaving.Goals as goal

pub returns-in-Denied : goal.returns-in-Denied
returns-in-Denied c = λ to.
    let run = c.args.run.now in
    let p = c.args.peer in
    let k = c.args.node in
    let s = run_slot run c.args.slot in
    let before = past_slots run c.args.slot in
    tells-same c.add_elsewhere.result c.args.out.now c.add_elsewhere.new.out (elsewhere p k before)
    (absence_reason p k s before (entry.Left c.args.reason to))
    (ap (λ (why : Reason). absence_reason p k s before (entry.Left why to))
    (sym c.in-Denied.is)) c.add_elsewhere.ensures

pub returns-in-Unacknowledged : goal.returns-in-Unacknowledged
returns-in-Unacknowledged c = λ to.
    let run = c.args.run.now in
    let p = c.args.peer in
    let k = c.args.node in
    let s = run_slot run c.args.slot in
    let before = past_slots run c.args.slot in
    tells-same c.add_absence_since.result c.args.out.now c.add_absence_since.new.out
    (absence_since p (record { slot = c.args.slot; node = p }))
    (absence_reason p k s before (entry.Left c.args.reason to))
    (ap (λ (spot : Spot). absence_since p spot) (sym (spot-in run.list run.script c.args.slot p))
    ∙ ap (λ (why : Reason). absence_reason p k s before (entry.Left why to)) (sym c.in-Unacknowledged.is))
    c.add_absence_since.ensures

pub returns-in-Clique : goal.returns-in-Clique
returns-in-Clique c = λ to.
    let run = c.args.run.now in
    let p = c.args.peer in
    let k = c.args.node in
    let s = run_slot run c.args.slot in
    let before = past_slots run c.args.slot in
    tells-same c.add_absence_since-in-Clique.result c.args.out.now c.add_absence_since-in-Clique.new.out
    (absence_since p (record { slot = c.args.slot; node = p }))
    (absence_reason p k s before (entry.Left c.args.reason to))
    (ap (λ (spot : Spot). absence_since p spot) (sym (spot-in run.list run.script c.args.slot p))
    ∙ ap (λ (why : Reason). absence_reason p k s before (entry.Left why to)) (sym c.in-Clique.is))
    c.add_absence_since-in-Clique.ensures
