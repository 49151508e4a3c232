use Rattle.ttp_top.proofs.sample.show_sample.Goals as goal

pub returns-in-Ok-make : goal.returns-in-Ok-make
returns-in-Ok-make g c =
    let shows = rw c.in-Ok-make.ensures.list at c.put_sample-status.ensures in
    rw c.keep_after.ensures shows
