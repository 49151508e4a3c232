use Rattle.std.proofs.Common.{subst, arith}
use Rattle.hypothesis.specs.Standing.{told_start}
use Rattle.broken_faults.specs.Seen.{IsSeenAt}
use Rattle.broken_faults.proofs.few.seen_before.Goals as goal

pub returns : goal.returns
returns c =
    subst (λ n. IsSeenAt c.args.list.now c.args.script.now (told_start c.args.start) n c.loop-slot.seen) (omega arith)
    c.loop-slot.invariant
