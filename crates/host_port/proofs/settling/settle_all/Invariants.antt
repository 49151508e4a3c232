use Rattle.host_port.proofs.Names.{◌≡◌, ℕ, ◌<◌, ◌≤◌, None, map, take, get_or, vec_len, vec_capacity, length}
use Rattle.host_port.proofs.Names.{into_iter_items, all_settled, IsReaderSettled, got_of}
use Rattle.host_port.proofs.settling.settle_all.Given as goal

abbrev pub invariant-loop-place : goal.invariant-loop-place
invariant-loop-place l = record {
  settled_so : l.writers ≡ all_settled l.fn.writers (take l.place l.fn.readers.items);
  pairs : map into_iter_items l.queues.items ≡ map got_of (take l.place l.fn.readers.items);
  whole : (i : ℕ) → i < l.place → IsReaderSettled (get_or l.fn.writers i None) (get_or l.fn.readers.items i None);
  readers : (i : ℕ) → l.place ≤ i → get_or l.readers.items i None ≡ get_or l.fn.readers.items i None;
  lengths : length l.readers.items ≡ length l.fn.readers.items;
  count : vec_len l.queues ≡ l.place;
  room : vec_capacity l.queues ≡ length l.fn.writers;
}
