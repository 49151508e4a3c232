use Rattle.hypothesis.proofs.faulty.KeptFaulty.forgetting.Goals as goal

pub returns : goal.returns
returns c = λ list script slot known. record {
  known = record { start = known.start; jumps = known.jumps; faulty = known.faulty };
  kept = c.nothing_kept.ensures list script slot;
}
