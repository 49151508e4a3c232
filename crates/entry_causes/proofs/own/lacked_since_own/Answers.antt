use Rattle.std.proofs.Common.{◌≡◌, ℕ, ◌-◌, Bool, ◌||◌, List, [], ◌∷◌, take, ap, sym, ◌∙◌, arith}
use Rattle.std.specs.List.{flat_map}
use Rattle.causes.specs.Missed.{missed_cause}
use Rattle.causes.specs.OwnSlots.{lacked_by, lacked_in}
use Rattle.causes.specs.RunSlots.{RunSlot, RunSlots, is_incorrect, judged_so, slots_to}
use Rattle.entry_causes.proofs.OwnFacts.{lacked-at, told-cons, told-same}
use Rattle.ttp_world.proofs.WorldFacts.{has_node-append}
use Rattle.entry_causes.proofs.Past.{take-none}
use Rattle.entry_causes.proofs.Since.{since-take, take-up}
use Rattle.run_rows.specs.Rows.{past_slots, run_slot}
use Rattle.ttp_base.specs.NodeSet.{has_node}
use Rattle.ttp_world.specs.declared.node.Verdict.TheVariants as verdict
use Rattle.entry_causes.proofs.own.lacked_since_own.Goals as goal

pub loop-at-init : goal.loop-at-init
loop-at-init c = λ j few.
    let run = c.args.run.now in
    let f = λ (s : RunSlot). lacked_in c.args.node (slots_to (past_slots run c.args.before) s.begun.number) in
    ap (λ (set : List ℕ). has_node set j) c.empty-lacked.ensures
    ∙ sym (ap (λ (slots : RunSlots). has_node (flat_map f (judged_so is_incorrect c.args.node slots)) j)
    (take-none run.list run.script c.back_to-from.result c.back_to-from.result (omega arith)))

pub loop-at-preserved : goal.loop-at-preserved
loop-at-preserved c = λ j few.
    let run = c.args.run.now in
    let k = c.args.node in
    let at = c.loop-at.at in
    let from = c.back_to-from.result in
    let s = run_slot run at in
    let rest = take (at - from) (past_slots run at) in
    let f = λ (s : RunSlot). lacked_in k (slots_to (past_slots run c.args.before) s.begun.number) in
    let g = λ (s : RunSlot). lacked_by k (missed_cause k s (past_slots run at) verdict.Incorrect).because in
    c.in_ok-lacked.ensures j few
    ∙ ap (λ (xs : List ℕ). has_node xs j || has_node c.loop-at.lacked j)
    (told-same g f is_incorrect k s (sym (lacked-at run.list run.script c.args.before at k (omega arith))))
    ∙ ap (λ (b : Bool). has_node (flat_map f (judged_so is_incorrect k (s ∷ []))) j || b) (c.loop-at.invariant j few)
    ∙ sym (has_node-append (flat_map f (judged_so is_incorrect k (s ∷ [])))
    (flat_map f (judged_so is_incorrect k rest)) j)
    ∙ ap (λ (xs : List ℕ). has_node xs j)
    (sym
    (ap (λ (slots : RunSlots). flat_map f (judged_so is_incorrect k slots))
    (take-up run.list run.script at from (omega arith))
    ∙ told-cons f is_incorrect k s rest))

pub returns : goal.returns
returns c = λ j few.
    let run = c.args.run.now in
    let k = c.args.node in
    let from = c.back_to-from.result in
    let f = λ (s : RunSlot). lacked_in k (slots_to (past_slots run c.args.before) s.begun.number) in
    let end : c.loop-at.at ≡ c.args.before = omega (arith, c.back_to-from.ensures.within) in
    c.loop-at.invariant j few
    ∙ ap (λ (slots : RunSlots). has_node (flat_map f (judged_so is_incorrect k slots)) j)
    ((λ i. take (end i - from) (past_slots run (end i)))
    ∙ sym (since-take run.list run.script c.args.before from k c.back_to-from.ensures.is))
