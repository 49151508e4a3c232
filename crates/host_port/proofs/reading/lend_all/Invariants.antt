use Rattle.host_port.proofs.Names.{◌≡◌, take, vec_len, vec_capacity, length, all_lent}
use Rattle.host_port.proofs.reading.lend_all.Given as goal

abbrev pub invariant-loop-place : goal.invariant-loop-place
invariant-loop-place l = record {
  writers : l.writers ≡ l.fn.writers;
  readers : l.readers.items ≡ all_lent l.reads l.node 0 (take l.place l.fn.writers);
  count : vec_len l.readers ≡ l.place;
  room : vec_capacity l.readers ≡ length l.fn.writers;
}
