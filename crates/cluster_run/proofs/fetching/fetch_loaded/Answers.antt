use Rattle.cluster_run.proofs.Words.{sym, ◌∙◌}
use Rattle.cluster_run.proofs.Sends.{lent_may}
use Rattle.cluster_run.proofs.fetching.fetch_loaded.Goals as goal

pub fetch_one-requires-clause-fetcher : goal.fetch_one-requires-clause-fetcher
fetch_one-requires-clause-fetcher g c κs within = λ f is.
    lent_may c.args.loaded c.args.end.now f (sym c.in_ok-fetcher.ensures.fetcher ∙ is)

pub settle_one-requires-clause-fetcher : goal.settle_one-requires-clause-fetcher
settle_one-requires-clause-fetcher g c =
    rw c.lend_one.ensures.end
    (c.requires.may c.fetch_one.new.fetcher (rw c.in_ok-fetcher.ensures.fetcher at c.fetch_one.ensures.fetches))

pub returns : goal.returns
returns g c =
    record {
      fetches = record {
        tried = c.fetch_one.new.fetcher;
        fetches = rw c.in_ok-fetcher.ensures.fetcher at c.fetch_one.ensures.fetches;
        settles = rw c.lend_one.ensures.end at c.settle_one.ensures;
      };
    }
