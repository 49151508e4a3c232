use Rattle.wave_text.proofs.Words.{◌≡◌, ◌++◌, map, below, ports_in}
use Rattle.ttp_world.specs.declared.script.Source.TheVariants as source
use Rattle.shown_slot.specs.declared.host.What.TheVariants as what
use Rattle.wave_text.proofs.ports.add_nodes_read.Given as goal

-- the ports of the nodes so far were added
abbrev pub invariant-loop-node : goal.invariant-loop-node
invariant-loop-node l =
    l.ports ≡ l.fn.ports ++ ports_in l.sizes (map (λ p. what.Read (source.Node p)) (below l.node)) l.host
