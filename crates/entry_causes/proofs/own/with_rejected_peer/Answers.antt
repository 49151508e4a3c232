use Rattle.std.proofs.Common.{Bool, ◌||◌, List, map, ap, sym, ◌∙◌, true, false, [], ◌∷◌, ℕ}
use Rattle.causes.specs.RunSlots.{RunSlot, RunSlots, is_judged_so, is_rejected, place_of_node}
use Rattle.entry_causes.proofs.OwnFacts.{has_node-one, judged-is}
use Rattle.run_rows.specs.Rows.{run_slot}
use Rattle.run_rows.specs.declared.row.NodeRow.{NodeRow}
use Rattle.ttp_base.proofs.NodeSets.{has_node-with}
use Rattle.ttp_base.specs.NodeSet.{has_node}
use Rattle.ttp_world.specs.declared.node.CState.{CState}
use Rattle.entry_causes.proofs.own.with_rejected_peer.Goals as goal

pub returns-then-is_judged_so : goal.returns-then-is_judged_so
returns-then-is_judged_so c = λ j few.
    let s = run_slot c.args.run.now c.args.slot in
    let k = c.args.node in
    let p = c.cstate_in.result.slot in
    let f = λ (s : RunSlot). (place_of_node k s).slot in
    let judged =
    ap (λ (r : NodeRow). is_judged_so is_rejected r.entry) (sym c.row.ensures) ∙ sym c.is_judged_so.ensures
    ∙ c.if-is_judged_so.true in
    ap (λ (set : List ℕ). has_node set j) c.with.ensures
    ∙ has_node-with c.args.set p j few
    ∙ ap (λ (b : Bool). b || has_node c.args.set j) (sym (has_node-one p j))
    ∙ ap (λ (q : ℕ). has_node (q ∷ []) j || has_node c.args.set j)
    (ap (λ (at : CState). at.slot) c.cstate_in.ensures.value)
    ∙ ap (λ (slots : RunSlots). has_node (map f slots) j || has_node c.args.set j)
    (sym (judged-is is_rejected k s true judged))

pub returns-else-is_judged_so : goal.returns-else-is_judged_so
returns-else-is_judged_so c = λ j few.
    let s = run_slot c.args.run.now c.args.slot in
    let k = c.args.node in
    let judged =
    ap (λ (r : NodeRow). is_judged_so is_rejected r.entry) (sym c.row.ensures) ∙ sym c.is_judged_so.ensures
    ∙ c.if-is_judged_so.false in
    ap (λ (slots : RunSlots). has_node (map (λ (s : RunSlot). (place_of_node k s).slot) slots) j
    || has_node c.args.set j)
    (sym (judged-is is_rejected k s false judged))
