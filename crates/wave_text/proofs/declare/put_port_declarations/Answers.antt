use Rattle.wave_text.proofs.Words.{◌==◌, [], ap, map, subst, sym, What, port_declaration, port_variables, Puts}
use Rattle.wave_text.proofs.Words.{puts_both}
use Rattle.ttp_base.proofs.Puts.{puts_where}
use Rattle.std.proofs.lemmas.Bool.{eq-eqb}
use Rattle.wave_text.proofs.declare.put_port_declarations.Goals as goal

pub returns-in-Read : goal.returns-in-Read
returns-in-Read g c =
    let port = c.args.port.now in
    puts_where (port.host == c.args.host) [] (eq-eqb port.host c.args.host c.if-port-host.false)
    (subst (Puts _ _ _ _) (sym (ap (λ (does : What). map (port_declaration port) (port_variables does)) c.in-Read.is))
    (puts_both c.put_port_declaration.ensures c.put_port_declaration-in-Read.ensures))
