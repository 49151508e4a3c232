use Rattle.std.proofs.Common.{◌++◌, refl}
use Rattle.why_story.specs.Passes.{rank_back, slot_back}
use Rattle.why_story.specs.RunSource.{source_slots}
use Rattle.why_story.proofs.Reaching.{Reaches-last, Reaches-none, Reaches-piece}
use Rattle.why_story.proofs.Steps.{on-ok}
use Rattle.why_story.proofs.reach.reach_slot.Goals as goal

pub returns : goal.returns
returns g c = λ count marked slot are.
    let run = source_slots (g.C.Causes.source c.args.causes.now) in
    let old = c.args.reach.now in
    let all = slot_back run c.args.nodes c.args.slot in
    let second = rank_back run c.args.slot 1 c.args.nodes in
    let third = rank_back run c.args.slot 0 c.args.nodes in
    let first =
    Reaches-piece run count old.told marked all all (rank_back run c.args.slot 2 c.args.nodes) (second ++ third) old _
    (Reaches-none run count marked all old are) refl
    (λ m marks. c.in_ok-reach_rank.ensures count m slot marks) in
    let two =
    Reaches-piece run count old.told marked all (second ++ third) second third _ _ first refl
    (λ m marks. c.in_ok-reach_rank-2.ensures count m slot marks) in
    on-ok c.reach_rank-3.result (λ last. Reaches-last run count old.told marked all third _ _ two last)
    (c.reach_rank-3.ensures count two.marked_now slot two.marks)
