use Rattle.std.proofs.Common.{◌-◌, take, ap, sym, ◌∙◌, arith}
use Rattle.causes.specs.OwnSlots.{settled_doubts}
use Rattle.causes.specs.RunSlots.{RunSlots}
use Rattle.causes.specs.Sources.{only_entries}
use Rattle.std.proofs.Common.{[], ◌∷◌}
use Rattle.entry_causes.proofs.OwnFacts.{settled-cons}
use Rattle.entry_causes.proofs.Past.{take-down, take-none}
use Rattle.entry_causes.proofs.Remaining.{adds-same, but-all, but-more, but-none}
use Rattle.entry_causes.proofs.Since.{since-take}
use Rattle.entry_causes.specs.Told.{settled_in}
use Rattle.run_rows.specs.Rows.{past_slots, run_slot}
use Rattle.entry_causes.proofs.own.add_settled_doubts.Goals as goal

pub loop-at-init : goal.loop-at-init
loop-at-init c =
    let run = c.args.run.now in
    let before = c.args.before in
    record {
      adds =
          but-all c.args.out.now
          (only_entries (settled_in c.args.node (take (before - c.back_to-from.result) (past_slots run before))));
      within = omega arith;
    }

pub loop-at-preserved : goal.loop-at-preserved
loop-at-preserved c =
    let run = c.args.run.now in
    let k = c.args.node in
    let at = c.loop-at.at in
    let before = c.args.before in
    let from = c.back_to-from.result in
    let rest = take (at - 1 - from) (past_slots run (at - 1)) in
    record {
      adds =
          but-more c.args.out.now c.loop-at.out c.add_settled.new.out
          (only_entries (settled_in k (take (before - from) (past_slots run before))))
          (only_entries (settled_in k (take (at - from) (past_slots run at))))
          (only_entries (settled_in k (run_slot run (at - 1) ∷ []))) (only_entries (settled_in k rest))
          c.loop-at.invariant.adds
          (ap (λ (slots : RunSlots). only_entries (settled_in k slots))
          (take-down run.list run.script at from (omega arith))
          ∙ settled-cons k (run_slot run (at - 1)) rest)
          c.in_ok-add_settled.ensures;
      within = omega arith;
    }

pub returns : goal.returns
returns c =
    let run = c.args.run.now in
    let k = c.args.node in
    let at = c.loop-at.at in
    let before = c.args.before in
    let from = c.back_to-from.result in
    adds-same c.args.out.now c.loop-at.out
    (only_entries (settled_in k (take (before - from) (past_slots run before))))
    (only_entries (settled_doubts k (past_slots run before)))
    (sym
    (ap (λ (slots : RunSlots). only_entries (settled_in k slots))
    (since-take run.list run.script before from k c.back_to-from.ensures.is)))
    (but-none c.args.out.now c.loop-at.out
    (only_entries (settled_in k (take (before - from) (past_slots run before))))
    (only_entries (settled_in k (take (at - from) (past_slots run at)))) c.loop-at.invariant.adds
    (ap (λ (slots : RunSlots). only_entries (settled_in k slots))
    (take-none run.list run.script at from (omega arith))))
