use Rattle.std.proofs.Common.{ℕ, nat_lt, sym, ap, ◌∙◌}
use Rattle.std.specs.List.{list_all}
use Rattle.std.proofs.lemmas.Bool.{lt-ltb}
use Rattle.ttp_base.proofs.NodeTests.{list_all-without, length-without_first}
use Rattle.ttp_frame.proofs.joining.are_below.Goals as goal

pub loop-k-smaller : goal.loop-k-smaller
loop-k-smaller c =
    let first = sym c.in-Some.ensures.value in
    rw c.without-rest.ensures (length-without_first c.loop-k.rest c.in-Some.k first)

pub loop-k-preserved : goal.loop-k-preserved
loop-k-preserved c =
    let k = c.in-Some.k in
    let below = λ (j : ℕ). nat_lt j c.args.limit in
    ap (list_all below) c.without-rest.ensures
    ∙ list_all-without below c.loop-k.rest k (sym c.in-Some.ensures.value) (lt-ltb k c.args.limit c.if-k-limit.false)
    ∙ c.loop-k.invariant
