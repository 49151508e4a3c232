use Rattle.trace_check.proofs.Words.{◌∙◌, ℕ, List, ap, after_label, newest_before}
use Rattle.ttp_world.specs.declared.script.Source.TheVariants as source
use Rattle.trace_check.proofs.Rings.{line_read, newest-payload, newest-status, older_payload, older_status}
use Rattle.trace_check.proofs.hosts.behind_older.Goals as goal

pub returns-in-Status : goal.returns-in-Status
returns-in-Status c = λ script history chosen count tells.
    let list = c.args.list.now in
    let read = c.args.read.now in
    c.behind_status_line.ensures
    ∙ ap (λ (line : List ℕ). after_label line c.args.text.now)
    (line_read list script history chosen read c.args.slot source.Status c.from.result
    (newest_before list script history read) c.status-status.result.now.words count c.in-Status.is
    (c.from.ensures ∙ newest-status list script history read c.args.slot c.in-Status.is count)
    (older_status list script history chosen read c.args.incoming.now c.status-status.result.now.words c.requires.ring
    c.in-Status.is tells c.status-status.ensures))

pub returns-in-Node : goal.returns-in-Node
returns-in-Node c = λ script history chosen count tells.
    let list = c.args.list.now in
    let read = c.args.read.now in
    let p = c.in-Node.from in
    let message = c.payload-newest.result.now in
    c.behind_payload_line.ensures
    ∙ ap (λ (line : List ℕ). after_label line c.args.text.now)
    (line_read list script history chosen read c.args.slot (source.Node p) message.number
    (newest_before list script history read) c.bytes-bytes.result.now count c.in-Node.is
    (newest-payload c.args.incoming.now list script history read p message c.in-Node.is c.requires.ring tells
    c.payload-newest.ensures)
    (c.bytes-bytes.ensures.value
    ∙ older_payload list script history chosen read c.args.incoming.now p message c.requires.ring c.in-Node.is tells
    c.payload-newest.ensures))
