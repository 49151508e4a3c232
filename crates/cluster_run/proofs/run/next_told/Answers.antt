use Rattle.cluster_run.proofs.Words.{cluster_at}
use Rattle.std.proofs.lemmas.Result.{IfErr-weaker, on_ok_weaker}
use Rattle.cluster_run.proofs.SlotSteps.{told_next}
use Rattle.cluster_run.proofs.run.next_told.Goals as goal

pub told-requires : goal.told-requires
told-requires g c =
    let course = c.args.course.now in
    let said = c.in-Ok.ensures in
    let told = told_next course c.args.at.now c.slot.new.self c.requires.may.within
    c.requires.slot said.steps said.bytes said.done in (
      c.requires.may.start,
      cluster_at course c.args.at.now,
      cluster_at course
          c.slot.new.self,
      told,
      c.requires.may.followed,
    )

pub returns-clause-runs : goal.returns-clause-runs
returns-clause-runs g c =
    let old = cluster_at c.args.course.now c.args.at.now in
    let new = cluster_at c.args.course.now c.slot.new.self in
    let said = c.in-Ok.ensures in
    let told = told_next c.args.course.now c.args.at.now c.slot.new.self
    c.requires.may.within c.requires.slot said.steps
    said.bytes said.done in
    record {
      within = c.slot.ensures.within;
      ok = on_ok_weaker c.told.result (λ ok start follows. ok start old new told follows) c.told.ensures.ok;
      fault = IfErr-weaker c.told.result _ _ (λ fault left start follows. left start old new told follows)
          c.told.ensures.fault;
    }
