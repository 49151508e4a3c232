use Rattle.two_faced.proofs.Words.{◌≡◌, ℕ, ◌+◌, ◌-◌, ℤ, ◌∷◌, length, Option, Some, None, ap, sym, subst, ◌∙◌, w64}
use Rattle.two_faced.proofs.Words.{FitsSigned, to_z, of_z, rules, arith, ◌==◌, IfSome, filter_map, range_with_len}
use Rattle.two_faced.proofs.Words.{ne_eqb, to_z-of_z, is_on, node_past, zeros_world, clock_beside, apart_after}
use Rattle.two_faced.proofs.Words.{IsNearSpan}
use Rattle.std.proofs.Common.{eq-eqb}
use Rattle.two_faced.proofs.FromBelow.{range-next}
use Rattle.two_faced.proofs.Spans.{widest_with, widest-clock, widest-none, difference_is}
use Rattle.two_faced.proofs.Spans.{clock_counts, clock_off, clock_own}
use Rattle.two_faced.proofs.seen.apart_after.Goals as goal
use Rattle.two_faced.proofs.seen.apart_after.Goals.{then-k-node+then-is_on, else-k-node}
use Rattle.two_faced.proofs.seen.apart_after.Goals.{else-k-node-via-then-k-node+else-is_on, else-k-node-via-else-k-node}

pub returns-in-Some : goal.returns-in-Some
returns-in-Some c =
    let list = c.args.list.now in
    let script = c.args.script.now in
    let slot = c.args.slot in
    let clock : ℕ → Option ℤ = clock_beside list script c.args.node slot (zeros_world list script (slot + 1)) in
    let near = subst (λ s. IfSome s IsNearSpan) c.in-Some.is c.loop-k.invariant.1 in
    let end : length list.slots - c.loop-k.k ≡ 0 = omega arith in
    difference_is c.in-Some.span near
    ∙ (λ i. widest_with (sym c.in-Some.is i) (filter_map clock (range_with_len c.loop-k.k (sym end i))))
    ∙ c.loop-k.invariant.0

pub loop-k-preserved : goal.loop-k-preserved
loop-k-preserved c =
    let list = c.args.list.now in
    let script = c.args.script.now in
    let slot = c.args.slot in
    let k = c.loop-k.k in
    let n = length list.slots in
    let clock : ℕ → Option ℤ = clock_beside list script c.args.node slot (zeros_world list script (slot + 1)) in
    let rest = range_with_len (k + 1) (n - (k + 1)) in
    let so_far : widest_with c.loop-k.span (filter_map clock (k ∷ rest))
    ≡ apart_after list script c.args.node slot (zeros_world list script (slot + 1)) =
    ap (λ ks. widest_with c.loop-k.span (filter_map clock ks)) (sym (range-next k n (omega arith)))
    ∙ c.loop-k.invariant.0 in
    let past = node_past list script (zeros_world list script (slot + 1)) k in
    elim c.if-k-node.branch [
      | then-k-node+then-is_on w ↦
          let shows = w.clock.ensures.shows script (slot + 1) c.requires.stands in
          let fits : FitsSigned w64 w.clock.result = search rules in
          let ahead = to_z w64 (of_z w64 w.clock.result) in
          let counts : clock k ≡ Some ahead =
          clock_counts (k == c.args.node) (is_on script k slot) past.offset (ne_eqb k c.args.node w.if-k-node.true)
          (sym w.is_on.ensures ∙ w.if-is_on.true) ∙ sym (ap Some (to_z-of_z w64 w.clock.result fits)
          ∙ ap Some shows) in (
            (λ i. widest_with (w.span-is i) (filter_map clock rest))
                ∙ (λ i. widest_with (Some (w.with_clock.ensures.value i)) (filter_map clock rest))
                ∙ widest-clock clock k rest ahead c.loop-k.span counts ∙ so_far,
            subst (λ s. IfSome s IsNearSpan) (sym w.span-is) w.with_clock.ensures.near,
          )
      | else-k-node w ↦
          let none : clock k ≡ None = elim w.else-k-node.branch [
            | else-k-node-via-then-k-node+else-is_on v ↦
                clock_off (k == c.args.node) (is_on script k slot) past.offset (sym v.is_on.ensures ∙ v.if-is_on.false)
            | else-k-node-via-else-k-node v ↦
                clock_own (k == c.args.node) (is_on script k slot) past.offset (eq-eqb k c.args.node v.if-k-node.false)
          ] in (
            (λ i. widest_with (w.span-is i) (filter_map clock rest))
                ∙ widest-none clock k rest c.loop-k.span none ∙ so_far,
            subst (λ s. IfSome s IsNearSpan) (sym w.span-is) c.loop-k.invariant.1,
          )
    ]
