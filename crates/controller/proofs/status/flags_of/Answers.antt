use Rattle.controller.proofs.Words.{arith}
use Rattle.controller.proofs.Flags.{added}
use Rattle.controller.proofs.status.flags_of.Goals as goal

pub returns : goal.returns
returns c =
    let active = added 0 (omega arith) (omega (arith, c.empty-flags.ensures tt)) (c.set.ensures tt) in
    let listening = added 1 (omega arith) active.below (c.set-2.ensures tt) in
    let left = added 2 (omega arith) listening.below (c.set-3.ensures tt) in
    let sent = added 3 (omega arith) left.below (c.set-4.ensures tt) in
    let delivered = added 4 (omega arith) sent.below (c.set-5.ensures tt) in
    let ack_open = added 5 (omega arith) delivered.below (c.set-6.ensures tt) in
    let doubt = added 6 (omega arith) ack_open.below (c.set-7.ensures tt) in
    let corrected = added 7 (omega arith) doubt.below (c.set-8.ensures tt) in
    grind (arith, c.empty-flags.ensures tt)
