use Rattle.wave_text.proofs.Words.{◌==◌, if◌then◌else◌, [], take, flat_map, port_declarations, Puts}
use Rattle.wave_text.proofs.declare.put_host_declarations.Given as goal

-- the lines so far were put
abbrev pub invariant-loop-port : goal.invariant-loop-port
invariant-loop-port g l =
    Puts l.fn.page.sheet.failed (g.K.Sink.output l.fn.out) l.page.sheet.failed (g.K.Sink.output l.out)
    (flat_map (λ port. if port.host == l.host then port_declarations port else []) (take l.port-index l.ports))
