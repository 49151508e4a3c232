use Rattle.hypothesis.proofs.faulty.BackFaulty.forgetting.Goals as goal

pub returns : goal.returns
returns c = λ list script slot known. record {
  known = record {
    start = known.start;
    jumps = known.jumps;
    end = known.end;
    newest = known.newest;
    faulty = known.faulty;
  };
  kept = c.nothing_kept.ensures list script slot;
}
