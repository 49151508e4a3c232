use Rattle.std.proofs.Common.{◌-◌, map, take, arith}
use Rattle.causes.specs.Listening.{silenced_in}
use Rattle.causes.specs.Sources.{all_sources}
use Rattle.entry_causes.proofs.Listens.{kept-down, kept-none}
use Rattle.entry_causes.proofs.Remaining.{but-all, but-more, but-none}
use Rattle.run_rows.specs.Rows.{past_slots, run_slot}
use Rattle.entry_causes.proofs.listening.add_silent_slots.Goals as goal

pub loop-at-init : goal.loop-at-init
loop-at-init c =
    let run = c.args.run.now in
    record {
      adds =
          but-all c.args.out.now
          (all_sources (map (silenced_in c.args.node)
          (take (c.args.before - c.args.from) (past_slots run c.args.before))));
      within = omega arith;
    }

pub loop-at-preserved : goal.loop-at-preserved
loop-at-preserved c =
    let run = c.args.run.now in
    let f = silenced_in c.args.node in
    let at = c.loop-at.at in
    let from = c.args.from in
    record {
      adds =
          but-more c.args.out.now c.loop-at.out c.add_silenced.new.out
          (all_sources (map f (take (c.args.before - from) (past_slots run c.args.before))))
          (all_sources (map f (take (at - from) (past_slots run at)))) (f (run_slot run (at - 1)))
          (all_sources (map f (take (at - 1 - from) (past_slots run (at - 1))))) c.loop-at.invariant.adds
          (kept-down run.list run.script at from f (omega arith)) c.in_ok-add_silenced.ensures;
      within = omega arith;
    }

pub returns : goal.returns
returns c =
    let run = c.args.run.now in
    let f = silenced_in c.args.node in
    but-none c.args.out.now c.loop-at.out
    (all_sources (map f (take (c.args.before - c.args.from) (past_slots run c.args.before))))
    (all_sources (map f (take (c.loop-at.at - c.args.from) (past_slots run c.loop-at.at)))) c.loop-at.invariant.adds
    (kept-none run.list run.script c.loop-at.at c.args.from f (omega arith))
