use Rattle.std.proofs.Common.{◌≤◌, ◌^◌, subst, sym, arith}
use Rattle.std.specs.Prelude.{ℤ, unsigned_abs}
use Rattle.bus_frames.proofs.Offsets.{noted-next, signed-same}
use Rattle.bus_frames.proofs.put.note_offsets.Goals as goal

pub loop-node-init : goal.loop-node-init
loop-node-init c = record {
  count = c.requires.count;
  shown = λ script history stands k less. absurd (omega (arith, less));
  near = λ k less. absurd (omega (arith, less));
}

pub loop-node-preserved : goal.loop-node-preserved
loop-node-preserved c =
    let near = c.node.ensures.near in
    let early = c.requires.early in
    let close : unsigned_abs c.node.result.offset ≤ 2 ^ 60 = omega (arith, near, early) in
    let same = signed-same c.node.result.offset (omega (arith, close)) in
    noted-next c.loop-node.offsets c.args.plant.now c.args.list.now
    c.loop-node.node _ c.node.result _ c.loop-node.invariant
    (omega arith) c.from.ensures c.node.ensures.shows same (subst (λ (z : ℤ). unsigned_abs z ≤ 2 ^ 60) (sym same) close)
