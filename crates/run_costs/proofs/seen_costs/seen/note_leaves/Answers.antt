use Rattle.std.proofs.Common.{◌≡◌, ◌≢◌, ◌<◌, Option, None, length, sym, ◌∙◌, arith}
use Rattle.std.proofs.Common.{get_or-set_other, below_more}
use Rattle.std.proofs.Math.ListN.{length-set}
use Rattle.std.proofs.lemmas.List.{get_or_read, get_or-set_same}
use Rattle.campaign.specs.declared.cost.Leave.{Leave}
use Rattle.campaign.specs.Cost.{leave_after}
use Rattle.run_costs.specs.States.{off_state, state_at}
use Rattle.run_costs.proofs.seen_costs.seen.note_leaves.Goals as goal

pub loop-k-preserved : goal.loop-k-preserved
loop-k-preserved c =
    let states = c.args.states.now in
    let k = c.loop-k.k in
    let left = c.loop-k.left in
    let none : Option Leave = None in
    let at : state_at states k ≡ c.index-states-k.result =
    sym (get_or_read states k c.index-states-k.result c.loop-k-test.true c.index-states-k.is off_state) in
    let room : k < length left = omega (arith, c.requires, c.loop-k-test.true, c.told-left, c.loop-k.invariant.2) in (
      below_more _ _
          (λ j before.
          let other : j ≢ k = omega arith in
          get_or-set_other left k j c.leave_after.result none other ∙ c.loop-k.invariant.0 j before)
          (get_or-set_same left k c.leave_after.result none room
          ∙ c.leave_after.ensures
          ∙ (λ i. leave_after k c.args.slot (sym at i).entry (c.loop-k.invariant.1 k (omega arith) i))),
      λ j after.
          let other : j ≢ k = omega arith in
          get_or-set_other left k j c.leave_after.result none other ∙ c.loop-k.invariant.1 j (omega arith),
      length-set left k c.leave_after.result ∙ c.loop-k.invariant.2,
    )
