use Rattle.cluster_run.proofs.Words.{◌≡◌, ◌≤◌, map, take, length, vec_len, vec_capacity, into_iter_items, AreDue}
use Rattle.cluster_run.proofs.Lines.{AreInOrder}
use Rattle.cluster_run.proofs.reading.in_order.Given as goal

abbrev pub invariant-loop-read : goal.invariant-loop-read
invariant-loop-read l = record {
  ordered : AreDue l.reads (map into_iter_items l.fn.queues) → AreInOrder (take l.read-index l.reads)
      (map into_iter_items l.fn.queues) (map into_iter_items l.queues) l.lines.items;
  queues : length l.queues ≡ length l.fn.queues;
  count : vec_len l.lines ≤ l.read-index;
  room : vec_capacity l.lines ≡ vec_capacity l.fn.lines;
}
