use Rattle.script_gen.proofs.Words.{◌≡◌, ◌+◌, ◌*◌, ◌++◌, length, flat_map, below, fault_within}
use Rattle.script_gen.proofs.faults.add_faults.Given as goal

-- the faults so far
abbrev pub invariant-loop-j : goal.invariant-loop-j
invariant-loop-j l = record {
  number : l.draws.number ≡ l.fn.draws.number;
  count : l.draws.count ≡ 2 * length l.list.slots + l.j;
  events : l.events ≡ l.fn.events ++ flat_map (fault_within l.list l.slots l.draws.number) (below l.j);
}
