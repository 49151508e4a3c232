use Rattle.wave_text.proofs.Words.{puts_both, puts_one}
use Rattle.wave_text.proofs.declare.put_node_scope.Goals as goal

pub returns : goal.returns
returns g c =
    puts_both
    (puts_both
    (puts_both (puts_one c.make_scope_line.ensures c.write.ensures) c.put_node_declarations.ensures)
    c.put_host_scope.ensures)
    c.put.ensures
