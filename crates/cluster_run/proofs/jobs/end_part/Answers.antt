use Rattle.cluster_run.proofs.Words.{◌∙◌, with_items_is}
use Rattle.cluster_run.proofs.jobs.end_part.Goals as goal

pub returns : goal.returns
returns g c =
    let part = c.args.part in
    let seats = with_items_is part.seats _ (c.end_from.auto.seats ∙ c.as_mut_slice.ensures.len) in
    rw (seats, with_items_is part.desks _ (c.end_from.auto.desks ∙ c.as_mut_slice-2.ensures.len))
    (rw (c.deref.ensures, c.as_mut_slice.ensures.value, c.as_mut_slice-2.ensures.value) at c.end_from.ensures)
