use Rattle.cluster_run.proofs.Words.{◌∙◌, with_items_is}
use Rattle.cluster_run.proofs.choosing.choose.Goals as goal

pub fetch_and_choose-requires-clause-may : goal.fetch_and_choose-requires-clause-may
fetch_and_choose-requires-clause-may g c κs within = rw c.as_mut_slice.ensures.value c.requires

pub write_and_choose-requires-clause-may : goal.write_and_choose-requires-clause-may
write_and_choose-requires-clause-may g c κs within = rw c.replace-given.ensures.value c.requires

pub returns-then-is_empty : goal.returns-then-is_empty
returns-then-is_empty g c =
    let same = with_items_is c.args.ends.now _ (c.fetch_and_choose.auto.ends ∙ c.as_mut_slice.ensures.len) in
    rw (same, ← c.as_mut_slice.ensures.value) c.in_ok-none.ensures

pub returns : goal.returns
returns g c = rw (← c.replace-given.ensures.value) c.in_ok-given.ensures
