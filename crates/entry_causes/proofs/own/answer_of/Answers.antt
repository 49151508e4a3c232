use Rattle.std.proofs.Common.{Bool, true, false, Option, None, Some, cond, ap, sym, ◌∙◌}
use Rattle.causes.specs.Members.{newest_entry_of}
use Rattle.causes.specs.OwnSlots.{if_answer, oldest}
use Rattle.causes.specs.RunSlots.{RunSlot, is_joined, judged_so, since_own}
use Rattle.run_rows.specs.Rows.{past_slots, run_slot}
use Rattle.ttp_world.specs.Acknowledgement.{is_correct}
use Rattle.entry_causes.proofs.own.answer_of.Goals as goal

abbrev answer_by : Bool → Option RunSlot → Option RunSlot
answer_by joined answer = elim joined [ true ↦ None | false ↦ answer ]

pub returns-then-has_joined-clause-value : goal.returns-then-has_joined-clause-value
returns-then-has_joined-clause-value c =
    let run = c.args.run.now in
    let k = c.args.node in
    let first = if_answer k (oldest (judged_so is_correct k (since_own k (past_slots run c.args.before)))) in
    sym
    (ap (λ (b : Bool). answer_by b first)
    (ap (λ slots. is_joined (newest_entry_of k slots)) c.back_to-behind.ensures.is
    ∙ sym c.has_joined.ensures ∙ c.if-has_joined.true))

pub returns-then-answers_node-clause-value : goal.returns-then-answers_node-clause-value
returns-then-answers_node-clause-value c =
    let run = c.args.run.now in
    let k = c.args.node in
    let first = oldest (judged_so is_correct k (since_own k (past_slots run c.args.before))) in
    let u = run_slot run c.in-Some.slot in
    ap (λ (b : Bool). cond b (Some u) None) (sym (sym c.answers_node.ensures ∙ c.if-answers_node.true))
    ∙ ap (if_answer k) c.in-Some.ensures.value
    ∙ sym
    (ap (λ (b : Bool). answer_by b (if_answer k first))
    (ap (λ slots. is_joined (newest_entry_of k slots)) c.back_to-behind.ensures.is
    ∙ sym c.has_joined.ensures ∙ c.if-has_joined.false))

pub returns-else-answers_node-clause-value : goal.returns-else-answers_node-clause-value
returns-else-answers_node-clause-value c =
    let run = c.args.run.now in
    let k = c.args.node in
    let first = oldest (judged_so is_correct k (since_own k (past_slots run c.args.before))) in
    let u = run_slot run c.in-Some.slot in
    ap (λ (b : Bool). cond b (Some u) None) (sym (sym c.answers_node.ensures ∙ c.if-answers_node.false))
    ∙ ap (if_answer k) c.in-Some.ensures.value
    ∙ sym
    (ap (λ (b : Bool). answer_by b (if_answer k first))
    (ap (λ slots. is_joined (newest_entry_of k slots)) c.back_to-behind.ensures.is
    ∙ sym c.has_joined.ensures ∙ c.if-has_joined.false))

pub returns-in-None-clause-value : goal.returns-in-None-clause-value
returns-in-None-clause-value c =
    let run = c.args.run.now in
    let k = c.args.node in
    let first = oldest (judged_so is_correct k (since_own k (past_slots run c.args.before))) in
    ap (if_answer k) c.in-None.ensures.value
    ∙ sym
    (ap (λ (b : Bool). answer_by b (if_answer k first))
    (ap (λ slots. is_joined (newest_entry_of k slots)) c.back_to-behind.ensures.is
    ∙ sym c.has_joined.ensures ∙ c.if-has_joined.false))
