use Rattle.std.proofs.Common.{ap, sym, ◌∙◌}
use Rattle.entry_causes.specs.Seeing.{view_within}
use Rattle.entry_causes.proofs.FromBelow.{slot_in-list}
use Rattle.ttp_world.specs.Diary.{joined_place}
use Rattle.ttp_world.specs.declared.node.CState.{CState}
use Rattle.entry_causes.proofs.view.view_in_window.Goals as goal

pub candidates_at-first-requires-clause-place : goal.candidates_at-first-requires-clause-place
candidates_at-first-requires-clause-place c = ap (λ (s : CState). s.slot) c.cstate_in-place.ensures.value

pub returns : goal.returns
returns c =
    let run = c.args.run.now in
    let lists = c.list.ensures.value ∙ sym (slot_in-list run.list run.script c.args.slot) in
    c.view_of_frame.ensures
    ∙ (λ i. view_within (lists i)
    (record {
      place = joined_place (c.cstate_in-place.ensures.value i);
      candidates = c.candidates_at-first.ensures.value i;
    })
    c.args.bytes.now)
