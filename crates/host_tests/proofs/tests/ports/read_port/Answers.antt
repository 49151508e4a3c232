use Rattle.std.proofs.Common.{◌≤◌, arith}
use Rattle.ttp_world.specs.declared.script.Source.TheVariants.{Status, Node}
use Rattle.ttp_world.specs.Script.{reads_in}
use Rattle.host_port.specs.Rings.{at_source}
use Rattle.host_port.specs.Reading.{reads_from}
use Rattle.host_tests.proofs.NewPorts.{lent_left}
use Rattle.host_tests.proofs.tests.ports.read_port.Goals as goal

pub returns-in-Ok-lend_reads-clause-read_status : goal.returns-in-Ok-lend_reads-clause-read_status
returns-in-Ok-lend_reads-clause-read_status c =
    let w = at_source c.in-Some.end Status in
    let reads = reads_from (reads_in c.in-Ok.script 0) c.in-Some.port.node Status in
    let some : 1 ≤ reads = rw (c.in-Ok.ensures, c.in-Some.ensures.node) (omega arith) in
    rw (c.in-Ok-lend_reads.ensures.readers Status) (lent_left w reads c.in-Some.ensures.status some)

pub returns-in-Ok-lend_reads-clause-read_sender : goal.returns-in-Ok-lend_reads-clause-read_sender
returns-in-Ok-lend_reads-clause-read_sender c =
    let w = at_source c.in-Some.end (Node 1) in
    let reads = reads_from (reads_in c.in-Ok.script 0) c.in-Some.port.node (Node 1) in
    let some : 1 ≤ reads = rw (c.in-Ok.ensures, c.in-Some.ensures.node) (omega arith) in
    rw (c.in-Ok-lend_reads.ensures.readers (Node 1)) (lent_left w reads c.in-Some.ensures.sender.1 some)
