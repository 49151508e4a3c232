use Rattle.cluster_run.proofs.Words.{◌≡◌, ◌≤◌, List, length, map, vec_len, vec_capacity, below, Medl, Entry, Script}
use Rattle.cluster_run.proofs.Words.{History, desk_numbers, node_shown, HaveEndedSlot}
use Rattle.cluster_run.proofs.reporting.node_lines.Given as goal

abbrev pub invariant-loop-k : goal.invariant-loop-k
invariant-loop-k l = record {
  count : vec_len l.lines ≡ l.k;
  room : length l.seats ≤ vec_capacity l.lines;
  shown : (list : Medl) (script : Script) (row : List Entry) (before : History)
      → HaveEndedSlot list script row before l.seats (desk_numbers l.desks)
      → l.lines.items ≡ map (node_shown list script row before) (below l.k);
}
