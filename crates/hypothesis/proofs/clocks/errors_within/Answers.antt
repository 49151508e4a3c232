use Rattle.hypothesis.proofs.Words.{◌≡◌, ℕ, ◌<◌, ◌≤◌, true, refl, ap, sym, ◌∙◌, below_more, w64, rules, arith, length}
use Rattle.hypothesis.proofs.Words.{to_z-of_z, is_within_bound, reading_error, all-below, errors_hold_within}
use Rattle.hypothesis.proofs.Ranges.{one-fails}
use Rattle.hypothesis.proofs.clocks.errors_within.Goals as goal

pub returns-then-not-is_within_bound-clause-value : goal.returns-then-not-is_within_bound-clause-value
returns-then-not-is_within_bound-clause-value c =
    sym (one-fails (λ k. is_within_bound c.args.bound (reading_error c.args.script.now k c.args.slot))
    (length c.args.list.now.slots) c.loop-node.node (omega arith) (search rules))

pub loop-node-preserved : goal.loop-node-preserved
loop-node-preserved c =
    let script = c.args.script.now in
    let slot = c.args.slot in
    let new = c.incidents_from-standing in
    let least : c.min-until.result ≤ c.loop-node.until = search rules in
    let least_new : c.min-until.result ≤ new.result.until = search rules in
    record {
      within = below_more _ _ c.loop-node.invariant.within (search rules);
      stands = λ k t less from before. below_more (λ k. reading_error script k t ≡ reading_error script k slot)
          c.loop-node.node (λ k less. c.loop-node.invariant.stands k t less from (omega (arith, before, least)))
          (ap (λ i. i.error) (new.ensures.stands t from (omega (arith, before, least_new)) ∙ new.ensures.value)) k less;
    }

pub returns : goal.returns
returns c =
    let script = c.args.script.now in
    let slot = c.args.slot in
    let all : (t : ℕ) → ((k : ℕ) → k < length c.args.list.now.slots
    → reading_error script k t ≡ reading_error script k slot)
    → true ≡ errors_hold_within c.args.list.now script c.args.bound t =
    λ t same. sym (all-below (λ k. is_within_bound c.args.bound (reading_error script k t))
    (length c.args.list.now.slots) (λ k less. ap (is_within_bound c.args.bound) (same k less)
    ∙ rw (to_z-of_z w64 c.args.bound c.ranges.bound) at (c.loop-node.invariant.within k (omega (arith, less))))) in
    record {
      value = all slot (λ k less. refl);
      stands = λ t from before.
          sym (all t (λ k less. c.loop-node.invariant.stands k t (omega (arith, less)) from before));
    }
