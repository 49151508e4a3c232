use Rattle.cluster_run.proofs.Words.{◌≡◌, ℕ, ◌<◌, length, vec_len, vec_capacity, AreLentTo, desk_ends, end_at}
use Rattle.cluster_run.proofs.Words.{readers_at}
use Rattle.cluster_run.proofs.reading.lend_readers.Given as goal

abbrev pub invariant-loop-k : goal.invariant-loop-k
invariant-loop-k l = record {
  desks : l.desks ≡ l.fn.desks;
  count : vec_len l.readers ≡ l.k;
  room : vec_capacity l.readers ≡ length l.fn.desks;
  lent : (i : ℕ) → i < l.k → AreLentTo l.reads i (end_at (desk_ends l.fn.desks) i) (readers_at l.readers.items i);
}
