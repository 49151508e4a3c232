use Rattle.ttp_world.specs.declared.script.Source.TheVariants.{Status}
use Rattle.host_tests.proofs.tests.ports.read_both.Goals as goal

pub host_read-requires-2-clause-left : goal.host_read-requires-2-clause-left
host_read-requires-2-clause-left g c =
    rw (c.host_read.ensures.others Status (λ same. cc)) (λ κs lives. c.requires.status)
