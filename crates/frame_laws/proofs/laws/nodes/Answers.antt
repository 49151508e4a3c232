use Rattle.frame_laws.proofs.FromBelow.{lines-by-nodes}
use Rattle.frame_laws.proofs.Nodes.{line-counted, state-kept}
use Rattle.frame_laws.proofs.laws.nodes.Goals as goal

pub returns-clause-order : goal.returns-clause-order
returns-clause-order c = lines-by-nodes

pub returns-clause-count : goal.returns-clause-count
returns-clause-count c = line-counted

pub returns-clause-state : goal.returns-clause-state
returns-clause-state c list script before chosen k valid node = state-kept list script before chosen k node valid
