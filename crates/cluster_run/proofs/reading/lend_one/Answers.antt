use Rattle.cluster_run.proofs.Words.{refl, sym, ap, ◌∙◌, none-some, lent, at_source}
use Rattle.cluster_run.proofs.LentReaders.{not_read}
use Rattle.cluster_run.proofs.reading.lend_one.Goals as goal

pub returns-clause-lent : goal.returns-clause-lent
returns-clause-lent c = record {
  readers = λ from. sym (ap (lent (at_source c.args.end.now from))
      (not_read c.args.reads.now c.args.node from (sym c.has_reads.ensures ∙ c.if-has_reads.false)));
  calls = refl;
  own = λ x is. absurd (none-some x is);
}
