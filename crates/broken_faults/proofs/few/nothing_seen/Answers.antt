use Rattle.std.proofs.Common.{ap, refl, rules}
use Rattle.ttp_base.specs.NodeSet.{has_node}
use Rattle.broken_faults.proofs.few.nothing_seen.Goals as goal

pub returns : goal.returns
returns c = record {
  walk = search rules;
  faulty = λ k small. ap (λ nodes. has_node nodes k) c.empty.ensures;
  newest = refl;
  known = tt;
}
