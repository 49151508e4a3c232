use Rattle.host_port.proofs.port.Port.lend_reads.Goals as goal

pub returns-clause-own : goal.returns-clause-own
returns-clause-own c = rw (← c.requires) c.lend_reads.ensures.own
