use Rattle.wave_text.proofs.Words.{◌∙◌, ap, sym, ◌==◌, if◌then◌else◌, List, ℕ}
use Rattle.wave_text.proofs.Words.{[], arith, take_all, flat_map, subst, Puts}
use Rattle.wave_text.proofs.Words.{Port, port_declarations}
use Rattle.shown_slot.specs.declared.host.What.TheVariants as what
use Rattle.wave_text.proofs.Puts.{flat_map-filter, puts_at}
use Rattle.wave_text.proofs.declare.put_host_declarations.Goals as goal

pub loop-port-preserved : goal.loop-port-preserved
loop-port-preserved g c =
    puts_at (λ (port : Port). if port.host == c.args.host then port_declarations port else []) c.args.ports.now
    c.loop-port.port-index (record { host = 0; what = what.Write; size = 0 }) (omega (arith, c.loop-port-test.true))
    c.loop-port.invariant c.put_port_declarations.ensures

pub returns : goal.returns
returns g c =
    let ports = c.args.ports.now in
    let lines : Port → List (List ℕ) = (λ port. if port.host == c.args.host then port_declarations port else []) in
    subst (Puts _ _ _ _)
    (ap (flat_map lines) (take_all c.loop-port.port-index ports (omega (arith, c.loop-port-test.false)))
    ∙ sym (flat_map-filter port_declarations (λ (port : Port). port.host == c.args.host) ports))
    c.loop-port.invariant
