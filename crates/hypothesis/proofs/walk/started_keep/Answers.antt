use Rattle.hypothesis.proofs.Words.{◌≡◌, max, ◌∙◌, rules, arith, told_start, keep_course}
use Rattle.hypothesis.proofs.Walks.{broken-keep, walked-keep}
use Rattle.hypothesis.proofs.walk.started_keep.Goals as goal

pub loop-slot-init : goal.loop-slot-init
loop-slot-init c = record {
  walked = c.first_walk-walk.ensures c.args.script.now
      (keep_course c.args.list.now c.args.script.now (told_start c.args.start)) c.requires.starts;
  kept = c.nothing_kept-kept.ensures c.args.list.now c.args.script.now 0;
}

pub returns-in-None : goal.returns-in-None
returns-in-None c =
    broken-keep c.args.list.now c.args.script.now (told_start c.args.start) c.loop-slot.slot c.loop-slot.walk
    c.in-None.ensures.walk.0 c.loop-slot.invariant.walked c.in-None.ensures.walk.1

pub returns : goal.returns
returns c =
    let last : c.max-slot-end.result ≡ max c.args.script.now.slots c.args.start.slot = search rules in
    c.walk_keep.ensures
    ∙ walked-keep c.args.list.now c.args.script.now (told_start c.args.start) c.loop-slot.slot c.loop-slot.walk
    (omega (arith, last)) c.loop-slot.invariant.walked
