use Rattle.wave_text.proofs.Words.{◌≡◌, flat_map, below, all_whats, ports_in}
use Rattle.wave_text.proofs.ports.ports_with.Given as goal

-- the ports of the hosts so far were added
abbrev pub invariant-loop-host : goal.invariant-loop-host
invariant-loop-host l = l.ports ≡ flat_map (ports_in l.sizes (all_whats l.nodes)) (below l.host)
