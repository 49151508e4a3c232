use Rattle.host_port.proofs.Names.{◌+◌, map, ap, ◌∙◌, words_of_payload}
use Rattle.host_port.proofs.ReaderLists.{ring_written, written_rings}
use Rattle.host_port.proofs.port.Port.deliver.Goals as goal

pub returns-clause-own : goal.returns-clause-own
returns-clause-own g c = ap (map ring_written) c.deliver.ensures.written
    ∙ (written_rings c.args.end.now (c.args.got.now.sender + 1) (words_of_payload c.args.got.now.payload)
    ∙ c.requires.own)
