use Rattle.wave_text.proofs.Words.{puts_both}
use Rattle.wave_text.proofs.declare.put_declarations.Goals as goal

pub returns : goal.returns
returns g c =
    puts_both (puts_both (puts_both c.put.ensures c.put_cluster_declarations.ensures) c.put_node_scopes.ensures)
    c.put-2.ensures
