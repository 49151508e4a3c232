use Rattle.std.proofs.Common.{[], ◌-◌, arith}
use Rattle.causes.specs.Story.{spots_back}
use Rattle.why_story.specs.RunSource.{source_slots, slots_up_to}
use Rattle.why_story.proofs.Reaching.{Reaches-init, Reaches-slot, reached-end}
use Rattle.why_story.proofs.reach.reached.Goals as goal

pub loop-slot-init : goal.loop-slot-init
loop-slot-init g c =
    let run = source_slots (g.C.Causes.source c.args.causes.now) in (
      omega arith,
      Reaches-init run c.args.slots c.args.from.now (spots_back (slots_up_to run c.args.slots)) _
          (c.mark_all.ensures c.args.slots [] c.in_ok-marks.ensures) c.new-2.ensures,
    )

pub loop-slot-preserved : goal.loop-slot-preserved
loop-slot-preserved g c =
    let run = source_slots (g.C.Causes.source c.args.causes.now) in
    let slot = c.loop-slot.slot in (
      omega (arith, c.loop-slot.invariant.0),
      Reaches-slot (g.C.Causes.source c.args.causes.now) c.args.slots [] c.args.from.now
          (spots_back (slots_up_to run c.args.slots)) slot (slot - 1) c.args.nodes
          c.loop-slot.reach _ c.loop-slot.invariant.1
          (omega (arith, c.loop-slot-test.true))
          (omega (arith, c.loop-slot-test.true, c.loop-slot.invariant.0, c.requires.slots)) c.requires.nodes
          (λ m marks. c.in_ok-reach_slot.ensures c.args.slots m
          (omega (arith, c.loop-slot-test.true, c.loop-slot.invariant.0)) marks),
    )

pub returns : goal.returns
returns g c =
    let run = source_slots (g.C.Causes.source c.args.causes.now) in
    reached-end run c.args.slots c.loop-slot.slot c.args.from.now
    (spots_back (slots_up_to run c.args.slots)) c.loop-slot.reach
    (omega (arith, c.loop-slot-test.false)) c.loop-slot.invariant.1
