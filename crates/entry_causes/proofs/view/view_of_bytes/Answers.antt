use Rattle.std.proofs.Common.{◌≡◌, Bool, true, false, cond, ◌&&◌, ap, sym, ◌∙◌, FitsSigned, rules, w64}
use Rattle.std.proofs.lemmas.Int.{to_z-of_z}
use Rattle.causes.specs.RunSlots.{past_in}
use Rattle.entry_causes.proofs.FromBelow.{slot_in-list}
use Rattle.run_rows.specs.Rows.{run_slot}
use Rattle.ttp_world.specs.Reception.{expected_of, is_expected_form, is_within_window, view_of_frame}
use Rattle.ttp_world.specs.World.{deviation_in}
use Rattle.ttp_world.specs.declared.node.ChannelView.TheVariants as view
use Rattle.entry_causes.proofs.view.view_of_bytes.Goals as goal

pub returns-then-is_within_window : goal.returns-then-is_within_window
returns-then-is_within_window c =
    let run = c.args.run.now in
    let s = run_slot run c.args.slot in
    let k = c.args.node in
    let list = s.begun.list in
    let expected = expected_of list k (past_in k s) in
    let bytes = c.args.bytes.now in
    let lists = c.list.ensures.value ∙ sym (slot_in-list run.list run.script c.args.slot) in
    let fits : FitsSigned w64 c.deviation_in-deviation.result = search rules in
    let same = to_z-of_z w64 c.deviation_in-deviation.result fits in
    let within : is_within_window list (deviation_in s.begun k c.args.sender) ≡ true =
    sym (λ i. is_within_window (lists i) ((same ∙ c.deviation_in-deviation.ensures) i))
    ∙ sym c.is_within_window.ensures ∙ c.if-is_within_window.true in
    c.view_in_window.ensures
    ∙ ap (λ (b : Bool). cond (b && is_expected_form list expected bytes) (view_of_frame list expected bytes) view.Bad)
    (sym within)

pub returns-else-is_within_window : goal.returns-else-is_within_window
returns-else-is_within_window c =
    let run = c.args.run.now in
    let s = run_slot run c.args.slot in
    let k = c.args.node in
    let list = s.begun.list in
    let expected = expected_of list k (past_in k s) in
    let bytes = c.args.bytes.now in
    let lists = c.list.ensures.value ∙ sym (slot_in-list run.list run.script c.args.slot) in
    let fits : FitsSigned w64 c.deviation_in-deviation.result = search rules in
    let same = to_z-of_z w64 c.deviation_in-deviation.result fits in
    let within : is_within_window list (deviation_in s.begun k c.args.sender) ≡ false =
    sym (λ i. is_within_window (lists i) ((same ∙ c.deviation_in-deviation.ensures) i))
    ∙ sym c.is_within_window.ensures ∙ c.if-is_within_window.false in
    ap (λ (b : Bool). cond (b && is_expected_form list expected bytes) (view_of_frame list expected bytes) view.Bad)
    (sym within)
