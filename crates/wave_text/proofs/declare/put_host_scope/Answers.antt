use Rattle.wave_text.proofs.Words.{◌≡◌, ◌==◌, true, false, ap, sym, list_any, host_scope}
use Rattle.wave_text.proofs.Words.{Port, puts_both, puts_none, subst, Puts}
use Rattle.std.proofs.Common.{rules}
use Rattle.wave_text.proofs.Hosts.{no_scope, host_scope_of}
use Rattle.wave_text.proofs.declare.put_host_scope.Goals as goal

pub returns-then-has_ports : goal.returns-then-has_ports
returns-then-has_ports g c =
    let some : list_any (λ (port : Port). port.host == c.args.host) c.args.ports.now ≡ true = search rules in
    subst (Puts _ _ _ _) (sym (host_scope_of c.args.ports.now c.args.host some))
    (puts_both (puts_both c.put.ensures c.put_host_declarations.ensures) c.put-then-has_ports.ensures)

pub returns-else-has_ports : goal.returns-else-has_ports
returns-else-has_ports g c =
    let none : list_any (λ (port : Port). port.host == c.args.host) c.args.ports.now ≡ false = search rules in
    subst (Puts _ _ _ _) (sym (ap host_scope (no_scope c.args.ports.now c.args.host none))) (puts_none _ _)
