use Rattle.host_port.proofs.port.Port.settle_reads.Goals as goal

pub settle_reads-requires : goal.settle_reads-requires
settle_reads-requires c = record { own = rw c.requires.end c.requires.readers }
