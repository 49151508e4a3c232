use Rattle.cluster_run.proofs.Words.{◌∙◌, with_items_is}
use Rattle.cluster_run.proofs.jobs.do_job.Goals as goal

pub returns-in-Read : goal.returns-in-Read
returns-in-Read g c =
    let left = with_items_is c.in-Read.readers _ (c.read_all.auto.readers ∙ c.as_mut_slice.ensures.len) in
    rw (c.in-Read.is, left) (rw c.as_mut_slice.ensures.value at c.read_all.ensures)
