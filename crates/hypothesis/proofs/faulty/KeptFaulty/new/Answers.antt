use Rattle.hypothesis.proofs.Words.{ap, has_node}
use Rattle.hypothesis.proofs.faulty.KeptFaulty.new.Goals as goal

pub returns : goal.returns
returns c = record {
  known = record {
    start = c.requires.start;
    jumps = c.jumps_of.ensures;
    faulty = λ k small. ap (λ nodes. has_node nodes k) c.empty.ensures;
  };
  kept = c.nothing_kept.ensures c.args.list.now c.args.script.now 0;
}
