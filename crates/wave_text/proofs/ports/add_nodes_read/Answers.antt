use Rattle.wave_text.proofs.Words.{List, ◌++◌, append_assoc, ap, sym, map, ◌∙◌, below, Port, port_if, ports_in, size_at}
use Rattle.wave_text.proofs.PortLists.{next_node_read, node_read}
use Rattle.wave_text.proofs.ports.add_nodes_read.Goals as goal

pub loop-node-preserved : goal.loop-node-preserved
loop-node-preserved c =
    let sizes = c.args.sizes.now in
    let k = c.args.host in
    let p = c.loop-node.node in
    let front = ports_in sizes (map node_read (below p)) k in
    let port = port_if k (node_read p) (size_at sizes k (node_read p)) in
    c.in_ok-add_port.ensures ∙ ap (λ (ports : List Port). ports ++ port) c.loop-node.invariant
    ∙ append_assoc c.args.ports.now front port
    ∙ ap (λ (ports : List Port). c.args.ports.now ++ ports) (sym (next_node_read sizes k p))
