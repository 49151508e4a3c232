use Rattle.std.proofs.Common.{◌≡◌}
use Rattle.std.specs.Prelude.{filter}
use Rattle.ttp_base.specs.NodeSet.{below}
use Rattle.ttp_world.specs.Returning.{is_sound}
use Rattle.run_costs.proofs.seen_costs.seen.correct_in.Given as goal

-- those so far
abbrev pub invariant-loop-node : goal.invariant-loop-node
invariant-loop-node l = l.correct ≡ filter (is_sound l.script l.faulty l.slot) (below l.node)
