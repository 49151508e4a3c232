use Rattle.std.proofs.Common.{◌-◌, ◌≤◌, [], ◌∷◌, ap, refl, subst, sym}
use Rattle.causes.specs.Members.{if_join}
use Rattle.causes.specs.Sources.{only_entries}
use Rattle.causes.specs.declared.cause.Spot.{Spot}
use Rattle.entry_causes.proofs.Adding.{adds-both}
use Rattle.entry_causes.proofs.Remaining.{adds-same}
use Rattle.entry_causes.proofs.SaidSlots.{said-slot}
use Rattle.run_rows.specs.Rows.{past_slots}
use Rattle.entry_causes.proofs.members.add_difference.Goals as goal

pub add_if_join-requires-clause-slot : goal.add_if_join-requires-clause-slot
add_if_join-requires-clause-slot c =
    let run = c.args.run.now in
    let d = c.args.difference.now in
    subst (λ (spot : Spot). spot.slot ≤ c.args.before - 1) (sym c.said-also.ensures.value)
    (said-slot run.list run.script c.args.before d.holds d.member)

pub returns : goal.returns
returns c =
    let run = c.args.run.now in
    let d = c.args.difference.now in
    let before = past_slots run c.args.before in (
      refl,
      adds-same c.args.out.now c.add_if_join.new.out (only_entries (d.said ∷ if_join before c.said-also.result)) _
          (ap (λ (spot : Spot). only_entries (d.said ∷ if_join before spot)) c.said-also.ensures.value)
          (adds-both c.args.out.now c.add_entry.new.self c.add_if_join.new.out (only_entries (d.said ∷ []))
          (only_entries (if_join before c.said-also.result)) c.in_ok-add_entry.ensures c.in_ok-add_if_join.ensures),
    )
