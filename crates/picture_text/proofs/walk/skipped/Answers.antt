use Rattle.picture_text.proofs.Words.{◌∙◌, sym, refl, arith}
use Rattle.picture_text.proofs.Sought.{next_place, not_all}
use Rattle.picture_text.proofs.walk.skipped.Goals as goal

pub unreachable-requires : goal.unreachable-requires
unreachable-requires c =
    let over = not_all c.args.slots c.loop-passed._passed
    (sym c.loop-passed.invariant ∙ c.in_default.ensures.none refl) in
    omega (arith, over)

pub loop-passed-preserved : goal.loop-passed-preserved
loop-passed-preserved c =
    next_place c.args.slots c.loop-passed._passed c.in-Some.ensures.some.0 c.next_hosts.new.self
    (sym c.loop-passed.invariant ∙ c.in-Some.ensures.some.1)
