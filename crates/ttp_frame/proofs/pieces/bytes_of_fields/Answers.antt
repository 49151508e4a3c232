use Rattle.ttp_frame.proofs.StateBytes.{cstate_bytes-wide, cstate_bytes-narrow}
use Rattle.ttp_frame.proofs.pieces.bytes_of_fields.Goals as goal

pub returns-then-wide : goal.returns-then-wide
returns-then-wide c =
    rw c.if-wide.true
    (cstate_bytes-wide c.args.time c.args.round c.args.slot c.args.members _ _ c.ranges.round.fits c.ranges.slot.fits
    c.to_be_bytes.ensures c.to_be_bytes-2.ensures)

pub returns-else-wide : goal.returns-else-wide
returns-else-wide c =
    rw c.if-wide.false
    (cstate_bytes-narrow c.args.time c.args.round c.args.slot c.args.members _ _ c.ranges.round.fits c.ranges.slot.fits
    c.to_be_bytes.ensures c.to_be_bytes-2.ensures)
