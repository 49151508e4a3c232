use Rattle.script_gen.proofs.Words.{◌≡◌, ◌*◌, ◌++◌, map, below, drift_by, error_by}
use Rattle.script_gen.proofs.clocks.add_clocks.Given as goal

-- those of the nodes so far
abbrev pub invariant-loop-node : goal.invariant-loop-node
invariant-loop-node l = record {
  number : l.draws.number ≡ l.fn.draws.number;
  count : l.draws.count ≡ 2 * l.node;
  drift : l.drift ≡ map (drift_by l.list l.draws.number) (below l.node);
  events : l.events ≡ l.fn.events ++ map (error_by l.list l.slots l.draws.number) (below l.node);
}
