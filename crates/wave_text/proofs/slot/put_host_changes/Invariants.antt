use Rattle.wave_text.proofs.Words.{take, [], flat_map, ◌==◌, option_map, if◌then◌else◌, unless_first, port_message}
use Rattle.wave_text.proofs.Words.{port_changes, Puts}
use Rattle.wave_text.proofs.slot.put_host_changes.Given as goal

-- the changes so far were put
abbrev pub invariant-loop-port : goal.invariant-loop-port
invariant-loop-port g l =
    Puts l.fn.page.sheet.failed (g.K.Sink.output l.fn.out) l.page.sheet.failed (g.K.Sink.output l.out)
    (flat_map (λ port. if port.host == l.host
    then port_changes port (option_map (port_message port) (unless_first l.is_first l.before.slot))
    (port_message port l.now.slot) else [])
    (take l.port-index l.ports))
