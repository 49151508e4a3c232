use Rattle.trace_check.proofs.Words.{◌∙◌}
use Rattle.trace_check.proofs.Rings.{newest-status, newest-payload}
use Rattle.trace_check.proofs.incoming.Incoming.newest.Goals as goal

pub returns-in-Status : goal.returns-in-Status
returns-in-Status c = λ list script history count tells ring.
    c.from.ensures ∙ newest-status list script history c.args.read.now c.args.slot c.in-Status.is count

pub returns-in-Node : goal.returns-in-Node
returns-in-Node c = λ list script history count tells ring.
    newest-payload c.args.self.now list script history c.args.read.now c.in-Node.sender c.payload.result.now
    c.in-Node.is ring tells c.payload.ensures
