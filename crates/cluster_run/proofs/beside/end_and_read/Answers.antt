use Rattle.cluster_run.proofs.TwoHalves.{front_may, back_may, halves_ended}
use Rattle.cluster_run.proofs.beside.end_and_read.Goals as goal

pub do_all-read-requires-clause-back : goal.do_all-read-requires-clause-back
do_all-read-requires-clause-back g c κs within = back_may c.in_ok-front.ensures c.requires.ready

pub do_all-read-requires-clause-front : goal.do_all-read-requires-clause-front
do_all-read-requires-clause-front g c κs within = front_may c.in_ok-front.ensures c.requires.ready

pub returns-clause-ended : goal.returns-clause-ended
returns-clause-ended g c =
    halves_ended c.in_ok-front.ensures c.in_ok-join_halves.ensures (rw c.part_of.ensures at c.do_all-read.ensures.front)
    (rw c.part_of-2.ensures at c.do_all-read.ensures.back)
