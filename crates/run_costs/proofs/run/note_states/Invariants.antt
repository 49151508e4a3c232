use Rattle.run_costs.specs.Standing.{AreOfPlant}
use Rattle.run_costs.proofs.run.note_states.Given as goal

-- those of the nodes so far
abbrev pub invariant-loop-node : goal.invariant-loop-node
invariant-loop-node l = AreOfPlant l.plant l.node l.states
