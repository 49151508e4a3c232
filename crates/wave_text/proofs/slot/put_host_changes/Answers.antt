use Rattle.wave_text.proofs.Words.{◌∙◌, ap, sym, ◌==◌, if◌then◌else◌, [], arith, take_all}
use Rattle.wave_text.proofs.Words.{flat_map, option_map, Lines, subst, Puts}
use Rattle.wave_text.proofs.Words.{Port, unless_first, port_message, port_changes}
use Rattle.shown_slot.specs.declared.host.What.TheVariants as what
use Rattle.wave_text.proofs.Puts.{flat_map-filter, puts_at}
use Rattle.wave_text.proofs.slot.put_host_changes.Goals as goal

pub loop-port-preserved : goal.loop-port-preserved
loop-port-preserved g c =
    puts_at
    (λ (port : Port). if port.host == c.args.host
    then port_changes port (option_map (port_message port) (unless_first c.args.is_first c.args.before.now.slot))
    (port_message port c.args.now.now.slot) else [])
    c.args.ports.now c.loop-port.port-index (record { host = 0; what = what.Write; size = 0 })
    (omega (arith, c.loop-port-test.true)) c.loop-port.invariant c.put_changes_at.ensures

pub returns : goal.returns
returns g c =
    let ports = c.args.ports.now in
    let changes : Port → Lines = (λ (port : Port).
    port_changes port (option_map (port_message port) (unless_first c.args.is_first c.args.before.now.slot))
    (port_message port c.args.now.now.slot)) in
    subst (Puts _ _ _ _)
    (ap (flat_map (λ (port : Port). if port.host == c.args.host then changes port else []))
    (take_all c.loop-port.port-index ports (omega (arith, c.loop-port-test.false)))
    ∙ sym (flat_map-filter changes (λ (port : Port). port.host == c.args.host) ports))
    c.loop-port.invariant
