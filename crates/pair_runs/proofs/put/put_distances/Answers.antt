use Rattle.std.proofs.Common.{sym, subst, arith}
use Rattle.ttp_base.specs.Outside.{WroteLines}
use Rattle.ttp_base.specs.Text.{Lines}
use Rattle.ttp_base.proofs.Below.{flat_map-next, flat_map-split}
use Rattle.ttp_base.proofs.Outputs.{Wrote-none, Wrote-join}
use Rattle.pair_runs.specs.Written.{lines_at, distance_lines}
use Rattle.pair_runs.proofs.Counted.{left-in}
use Rattle.pair_runs.proofs.put.put_distances.Goals as goal

pub loop-distance-init : goal.loop-distance-init
loop-distance-init g c = λ tolds are. Wrote-none (g.K.Sink.output c.args.out.now)

pub put_distance-requires : goal.put_distance-requires
put_distance-requires g c = omega (arith, c.requires.1.room, c.loop-distance-test.true)

pub loop-distance-preserved : goal.loop-distance-preserved
loop-distance-preserved g c = λ tolds are.
    let d = c.loop-distance.distance in
    let o = g.K.Sink.output c.args.out.now in
    let p = g.K.Sink.output c.loop-distance.out in
    let q = g.K.Sink.output c.put_distance.new.out in
    subst (λ (ls : Lines). WroteLines o q ls) (sym (flat_map-next (lines_at tolds) d))
    (Wrote-join o p q (distance_lines tolds d) (lines_at tolds d) (c.loop-distance.invariant tolds are)
    (c.in_default.ensures.ok c.args.distances tolds are))

pub returns-in-Err-clause-err : goal.returns-in-Err-clause-err
returns-in-Err-clause-err g c = λ tolds are.
    let d = c.loop-distance.distance in
    let o = g.K.Sink.output c.args.out.now in
    let p = g.K.Sink.output c.loop-distance.out in
    let q = g.K.Sink.output c.put_distance.new.out in
    let split = flat_map-split (lines_at tolds) d c.args.distances c.loop-distance-test.true in
    left-in c.in-Err.why o p q (distance_lines tolds d) (lines_at tolds d) split.0
    (distance_lines tolds c.args.distances) (sym split.1)
    (c.loop-distance.invariant tolds are) (c.in-Err.ensures.err c.args.distances tolds are)
