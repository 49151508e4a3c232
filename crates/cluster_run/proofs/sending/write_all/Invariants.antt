use Rattle.cluster_run.proofs.Words.{◌≡◌, ◌≤◌, take, vec_len, vec_capacity, All, filter_map, write_at, WritesBytes}
use Rattle.cluster_run.proofs.Sends.{AreWritten}
use Rattle.cluster_run.proofs.sending.write_all.Given as goal

abbrev pub invariant-loop-place : goal.invariant-loop-place
invariant-loop-place g l = record {
  written : AreWritten l.fn.ends.items (filter_map (write_at l.script) (take l.place-index l.places)) l.ends.items
      l.lines.items;
  bytes : All WritesBytes (filter_map (write_at l.script) (take l.place-index l.places));
  count : vec_len l.lines ≤ l.place-index;
  room : vec_capacity l.lines ≡ vec_capacity l.fn.lines;
}
