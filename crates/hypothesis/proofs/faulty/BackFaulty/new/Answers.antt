use Rattle.hypothesis.proofs.Words.{ap, has_node, told_start}
use Rattle.hypothesis.proofs.faulty.BackFaulty.new.Goals as goal

pub returns : goal.returns
returns c = record {
  known = record {
    start = c.requires.start;
    jumps = c.jumps_of.ensures;
    end = c.no_slots.ensures.end;
    newest = c.no_slots.ensures.newest c.args.list.now c.args.script.now (told_start c.args.start);
    faulty = λ k small. ap (λ nodes. has_node nodes k) c.empty.ensures;
  };
  kept = c.nothing_kept.ensures c.args.list.now c.args.script.now 0;
}
