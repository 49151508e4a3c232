use Rattle.std.proofs.Common.{◌≡◌, ℕ, ◌-◌, Bool, true, false, ◌||◌, List, []}
use Rattle.std.proofs.Common.{◌∷◌, filter, ltb, map, take, refl, ap, sym}
use Rattle.std.proofs.Common.{◌∙◌, arith}
use Rattle.causes.specs.RunSlots.{RunSlot, RunSlots, entry_in_slot, is_judged_so, is_rejected, judged_so, place_of_node}
use Rattle.causes.specs.RunSlots.{since_own}
use Rattle.entry_causes.proofs.OwnFacts.{peers-cons, sieves-swap}
use Rattle.ttp_world.proofs.WorldFacts.{has_node-append}
use Rattle.entry_causes.proofs.Past.{take-none}
use Rattle.entry_causes.proofs.Since.{keep-before, since-take, take-end, take-up}
use Rattle.run_rows.specs.Rows.{past_slots, run_slot}
use Rattle.ttp_base.specs.NodeSet.{has_node}
use Rattle.entry_causes.proofs.own.with_rejected_peers.Goals as goal

or-none : (a : Bool) → a ≡ (a || false)
or-none true = refl
or-none false = refl

or-turned : (a b c : Bool) → (a || (b || c)) ≡ (b || (a || c))
or-turned true true c = refl
or-turned true false c = refl
or-turned false true c = refl
or-turned false false c = refl

pub loop-at-init : goal.loop-at-init
loop-at-init c =
    let run = c.args.run.now in
    let from = c.back_to-from.result in
    record {
      told = λ j few.
          or-none (has_node c.args.told j)
          ∙ sym (ap (λ (slots : RunSlots).
          has_node c.args.told j
          || has_node (map (λ (s : RunSlot). (place_of_node c.args.node s).slot)
          (judged_so is_rejected c.args.node slots)) j)
          (take-none run.list run.script from from (omega arith)));
      within = omega arith;
    }

pub loop-at-preserved : goal.loop-at-preserved
loop-at-preserved c =
    let run = c.args.run.now in
    let k = c.args.node in
    let at = c.loop-at.at in
    let from = c.back_to-from.result in
    let s = run_slot run at in
    let rest = take (at - from) (past_slots run at) in
    let f = λ (s : RunSlot). (place_of_node k s).slot in
    record {
      told = λ j few.
          let here = has_node (map f (judged_so is_rejected k (s ∷ []))) j in
          c.with_rejected_peer-told.ensures j few
          ∙ ap (λ (b : Bool). here || b) (c.loop-at.invariant.told j few)
          ∙ or-turned here (has_node c.args.told j) (has_node (map f (judged_so is_rejected k rest)) j)
          ∙ ap (λ (b : Bool). has_node c.args.told j || b)
          (sym (has_node-append (map f (judged_so is_rejected k (s ∷ []))) (map f (judged_so is_rejected k rest)) j))
          ∙ ap (λ (xs : List ℕ). has_node c.args.told j || has_node xs j)
          (sym
          (ap (λ (slots : RunSlots). map f (judged_so is_rejected k slots))
          (take-up run.list run.script at from (omega arith))
          ∙ peers-cons f is_rejected k s rest));
      within = omega arith;
    }

pub returns : goal.returns
returns c = λ j few.
    let run = c.args.run.now in
    let k = c.args.node in
    let before = c.args.before in
    let slot = c.args.slot in
    let from = c.back_to-from.result in
    let f = λ (s : RunSlot). (place_of_node k s).slot in
    let p = λ (s : RunSlot). is_judged_so is_rejected (entry_in_slot k s) in
    let q = λ (s : RunSlot). ltb s.begun.number slot in
    c.loop-at.invariant.told j few
    ∙ ap (λ (slots : RunSlots). has_node c.args.told j || has_node (map f (judged_so is_rejected k slots)) j)
    (take-end run.list run.script c.loop-at.at slot from (omega arith) (omega arith) c.loop-at.invariant.within
    ∙ sym (keep-before run.list run.script slot before from c.requires.slot)
    ∙ ap (filter q) (sym (since-take run.list run.script before from k c.back_to-from.ensures.is)))
    ∙ ap (λ (slots : RunSlots). has_node c.args.told j || has_node (map f slots) j)
    (sym (sieves-swap p q (since_own k (past_slots run before))))
