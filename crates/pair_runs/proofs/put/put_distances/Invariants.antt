use Rattle.std.proofs.Common.{List}
use Rattle.ttp_base.specs.Outside.{WroteLines}
use Rattle.fault_pairs.specs.Sums.{PairTold}
use Rattle.pair_classes.specs.Summed.{AreSumsOf}
use Rattle.pair_runs.specs.Written.{distance_lines}
use Rattle.pair_runs.proofs.put.put_distances.Given as goal

-- the lines of the distances so far
abbrev pub invariant-loop-distance : goal.invariant-loop-distance
invariant-loop-distance g l =
    (tolds : List PairTold) → AreSumsOf l.distances tolds l.sums
    → WroteLines (g.K.Sink.output l.initial.out) (g.K.Sink.output l.out) (distance_lines tolds l.distance)
