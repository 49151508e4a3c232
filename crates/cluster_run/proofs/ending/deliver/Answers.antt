use Rattle.cluster_run.proofs.Words.{Some, ap, words_of_payload}
use Rattle.cluster_run.proofs.HandingOn.{number_written}
use Rattle.ttp_world.specs.declared.script.Source.TheVariants as source
use Rattle.cluster_run.proofs.ending.deliver.Goals as goal

pub returns-in-Some-clause-number : goal.returns-in-Some-clause-number
returns-in-Some-clause-number g c =
    let got = c.in-Some.got in
    rw c.in-Some.is
    (ap Some
    (number_written c.args.end.now (source.Node got.sender) (words_of_payload got.payload) c.deliver.result
    (c.requires.room.room got c.in-Some.is) (rw c.deliver.ensures.written at c.deliver.ensures.number)))
