use Rattle.cluster_run.proofs.Words.{◌∙◌}
use Rattle.cluster_run.proofs.LentReaders.{settles_readers, lines_queued}
use Rattle.cluster_run.proofs.reading.settle_one.Goals as goal

pub returns-clause-settles : goal.returns-clause-settles
returns-clause-settles c =
    let ok = c.in_ok-settle_reads.ensures in
    rw c.in-Some.is
    (settles_readers c.args.end.now c.settle_reads.new.self c.in-Some.readers ok.whole ok.joined)

pub returns-clause-lines : goal.returns-clause-lines
returns-clause-lines c =
    let ok = c.in_ok-settle_reads.ensures in
    let settled = c.in_ok-settle_reads.field-0 in
    let same = c.into_iter-2.ensures.rest ∙ c.into_vec-lines.ensures in
    rw (same, c.in-Some.is) (lines_queued c.args.host c.in-Some.readers settled ok.sources ok.hosts ok.pairs)
