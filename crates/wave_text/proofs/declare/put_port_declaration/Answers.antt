use Rattle.wave_text.proofs.Words.{puts_one}
use Rattle.wave_text.proofs.declare.put_port_declaration.Goals as goal

pub returns : goal.returns
returns g c = puts_one c.make_port_declaration.ensures c.write.ensures
