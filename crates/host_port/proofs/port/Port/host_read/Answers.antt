use Rattle.host_port.proofs.Names.{subst, PortState, HaveBuffers, source_place}
use Rattle.host_port.proofs.ReaderLists.{buffers_there}
use Rattle.host_port.proofs.port.Port.host_read.Goals as goal

pub returns-clause-own : goal.returns-clause-own
returns-clause-own g c = rw c.read.ensures.rings c.requires.own

pub returns-clause-reads : goal.returns-clause-reads
returns-clause-reads g c =
    let port = c.args.self.now in
    let same = buffers_there port.buffers port.incoming c.args.r.now.readers (source_place c.args.source) c.requires.own
    (subst (λ (p : PortState). HaveBuffers p.buffers p.incoming) c.self.view_is c.self.invariant) c.requires.left in
    rw same at c.read.ensures.reads
