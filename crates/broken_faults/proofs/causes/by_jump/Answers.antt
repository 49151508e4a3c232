use Rattle.std.proofs.Common.{ap, ◌∙◌}
use Rattle.ttp_base.specs.NodeSet.{has_node}
use Rattle.broken_faults.proofs.causes.by_jump.Goals as goal

pub returns-clause-known : goal.returns-clause-known
returns-clause-known c = record {
  lost = c.has.ensures ∙ ap (λ s. has_node s c.args.node) c.requires.faults.made;
  faults = c.requires.faults;
}
