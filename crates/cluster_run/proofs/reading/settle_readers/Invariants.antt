use Rattle.cluster_run.proofs.Words.{◌≡◌, map, length, vec_capacity, into_iter_items}
use Rattle.cluster_run.proofs.LentReaders.{AreReadersSettled}
use Rattle.cluster_run.proofs.reading.settle_readers.Given as goal

abbrev pub invariant-loop-k : goal.invariant-loop-k
invariant-loop-k l = record {
  settled : AreReadersSettled l.k l.fn.readers.items l.readers.items l.fn.desks l.desks
      (map into_iter_items l.queues.items);
  room : vec_capacity l.queues ≡ length l.fn.desks;
}
