use Rattle.host_port.proofs.Names.{◌≡◌, ◌≤◌, map, vec_len, vec_capacity, length, into_iter_items}
use Rattle.host_port.proofs.LineQueues.{AreLined}
use Rattle.host_port.proofs.settling.lines_of.Given as goal

abbrev pub invariant-loop-source : goal.invariant-loop-source
invariant-loop-source l = record {
  lined : AreLined l.calls (map into_iter_items l.fn.queues.items) l.host l.source-index l.lines.items
      (map into_iter_items l.queues.items);
  room : vec_len l.lines ≡ l.source-index;
  whole : length l.calls ≤ vec_capacity l.lines;
}
